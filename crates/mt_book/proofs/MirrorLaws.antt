-- A mirror that is given the posts of commands.
use Rattle.std.proofs.Common.{◌≡◌, ℕ, ◌+◌, ◌≤◌, ◌==◌, List, ◌++◌, map, length, Some, slice_get, IsTrue, sym, ap, ◌∙◌, arith, length-append}
use Rattle.std.specs.List.{AllByRecursion}
use Rattle.mt_events.specs.Posts.{PostView, IsPost, post_text}
use Rattle.mt_events.specs.Following.{space_posts}
use Rattle.mt_events.specs.Mirrors.{are_next, mirrored_by}
use Rattle.mt_events.proofs.PostLaws.{texts_tell}
use Rattle.mt_events.proofs.MirrorLaws.{mirror_same, mirror_followed}
use Rattle.mt_book.specs.declared.command.Command.{Command}
use Rattle.mt_book.specs.Step.{after}
use Rattle.mt_book.specs.Commands.{IsCommand}
use Rattle.mt_book.specs.History.{events, space_number, posts_from}
use Rattle.mt_book.specs.Book.{command_limit}
use Rattle.mt_book.specs.Laws.{mirror_of}
use Rattle.mt_book.proofs.EachLaws.{each_kept}
use Rattle.mt_book.proofs.ValidLaws.{posts_valid}
use Rattle.mt_book.proofs.HistoryLaws.{space_events, numbers, posts_events, tables_made}

-- each of the posts of its namespace is the next one of the mirror, and they give it the table and the number after the commands
pub mirrors_followed : (n : ℕ) (before cs : List Command) (told : List PostView) → length (before ++ cs) ≤ command_limit → AllByRecursion IsCommand (before ++ cs) → AllByRecursion IsPost told
    → map post_text told ≡ map post_text (space_posts n (posts_from before cs))
    → IsTrue (are_next (mirror_of n before) told) × (mirrored_by (mirror_of n before) told ≡ mirror_of n (before ++ cs))
mirrors_followed n before cs told few commands read same =
    let posts : List PostView = space_posts n (posts_from before cs) in
    let valid : AllByRecursion IsPost posts = each_kept IsPost (λ (p : PostView). p.space == n) (posts_from before cs) (posts_valid before cs few commands) in
    let is : told ≡ posts = texts_tell told posts read valid same in
    let each : (k : ℕ) (p : PostView) → slice_get posts k ≡ Some p → (p.space ≡ n) × (p.number ≡ space_number n before + k + 1) = λ k p e.
    let r = numbers n (space_number n before + 1) (after before) cs k p (ap (λ (l : List PostView). slice_get l k) (sym (space_events n before cs)) ∙ e) in
    (r.0, omega (arith, r.1)) in
    let followed = mirror_followed (mirror_of n before) posts each in
    let count : space_number n before + length posts ≡ space_number n (before ++ cs) =
    sym (ap (λ (l : List PostView). length l) (posts_events n before cs) ∙ length-append (events n before) posts) in (
      ap (are_next (mirror_of n before)) is ∙ followed.0,
      ap (mirrored_by (mirror_of n before)) is ∙ followed.1 ∙ mirror_same n count (tables_made n before cs),
    )
