-- The lines in which tables, what a watcher found, and posts are answered. The words are this project's rule; the lines of a table are those of proc_pid_mountinfo(5).
-- A word with no source is this project's rule.
use Rattle.std.specs.Prelude.{ℕ, ◌+◌, List, [], ◌∷◌, ◌++◌, codes, decimal, length, fold}
use Rattle.std.specs.List.{flat_map}
use Rattle.mt_info.specs.declared.row.Row.{Row}
use Rattle.mt_info.specs.RowLine.{whole_line}
use Rattle.mt_events.specs.Posts.{PostView, post_lines, post_text}
use Rattle.mt_events.specs.declared.opening.Part.{Part}
use Rattle.mt_events.specs.declared.opening.Opening.{Opening}

-- the line `ok` with a number
abbrev pub count_text : ℕ → List ℕ
count_text n = codes "ok " ++ decimal n ++ 10 ∷ []

-- `ok`, how many rows the table has, and the namespace's number; then a line for each row
abbrev pub table_text : ℕ → List Row → List ℕ
table_text number rows = codes "ok " ++ decimal (length rows) ++ codes " " ++ decimal number ++ 10 ∷ [] ++ flat_map whole_line rows

-- a namespace that a watcher found: the number of its last post, how many rows its table has, and a line for each row
abbrev pub part_text : Part → List ℕ
part_text p = codes "space " ++ decimal p.space ++ codes " " ++ decimal p.number ++ codes " " ++ decimal (length p.table) ++ 10 ∷ [] ++ flat_map whole_line p.table

-- how many lines come for the namespaces that a watcher found, and for posts
abbrev pub lines_of_parts : List Part → ℕ
lines_of_parts parts = fold (λ n (p : Part). n + (1 + length p.table)) 0 parts

abbrev pub lines_of_posts : List PostView → ℕ
lines_of_posts posts = fold (λ n p. n + length (post_lines p)) 0 posts

-- what a watcher finds: `ok`, how many lines follow, and then these
abbrev pub opening_text : Opening → List ℕ
opening_text o = count_text (lines_of_parts o.parts) ++ flat_map part_text o.parts

-- posts: `ok`, how many lines follow, and then the posts
abbrev pub posts_text : List PostView → List ℕ
posts_text posts = count_text (lines_of_posts posts) ++ flat_map post_text posts

-- posts that are followed: the posts, and then another text
abbrev pub followed_text : List PostView → List ℕ → List ℕ
followed_text posts text = flat_map post_text posts ++ text
