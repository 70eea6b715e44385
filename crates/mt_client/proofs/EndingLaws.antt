-- Rows, namespaces and posts that were passed on, also up to the line that ends them, what cannot come first where one
-- is refused, and a refusal in the place of an answer.
use Rattle.std.proofs.Common.{◌≡◌, ◌≢◌, ℕ, ◌+◌, ◌<◌, ◌≤◌, ◌^◌, Bool, List, [], ◌∷◌, ◌++◌, length, refl, sym, ap, subst, ◌∙◌, arith, append-nil, length-append, Option, Some, None, true, false, codes, if◌then◌else◌, ◌⊎◌, Result, Ok, Err, OnOk, OnErr}
use Rattle.std.proofs.lemmas.List.{length-map}
use Rattle.std.proofs.lemmas.Grind.{flat_map-append}
use Rattle.std.specs.List.{flat_map, join_with_byte, AllByRecursion}
use Rattle.std.proofs.lemmas.Option.{same_Some}
use Rattle.mt_lines.specs.Words.{words}
use Rattle.std.specs.Io.KnownBytes.{Appends}
use Rattle.mt_lines.specs.Lines.{Item}
use Rattle.mt_skel.proofs.MiddleLaws.{each_last}
use Rattle.mt_info.specs.RowLine.{line}
use Rattle.mt_events.specs.Posts.{PostView, post_text, ended}
use Rattle.mt_protocol.specs.declared.form.Form.{Form}
use Rattle.mt_client.specs.declared.block.Block.{Block}
use Rattle.mt_client.specs.declared.block.Block.TheVariants.{Namespace, Post, Command}
use Rattle.mt_client.specs.declared.opening.Heading.{Heading}
use Rattle.mt_client.specs.Limits.{most_rows}
use Rattle.mt_client.specs.Requests.{verdict, lines_behind, event_count, refuses, is_refusal}
use Rattle.mt_client.specs.Reading.{texts, printed, ComeFirst, prepend_lines, HasRead, NoneFirst, AreSoMany, HasPassed, IsSentPart}
use Rattle.mt_client.specs.Mirroring.{IsSentPost, heading_words, HasRefused}
use Rattle.mt_client.specs.Awaited.{AreRowLines, IsPostBehind}
use Rattle.mt_client.specs.Replies.{IsPartLines, IsPostLines, IsCommandLines, IsBlock, IsBlockOf, AreBlocks, AreBlockLines, AreBehind, IsHeaded, most_posts, IsEnding, IsFollowAnswer, IsAnswer}
use Rattle.mt_client.proofs.FollowLaws.{post_counted, printed_post, HasReadMore}
use Rattle.mt_client.proofs.OpeningLaws.{first_taken, needs_line, heading_tells, few}
use Rattle.mt_client.proofs.RisingLaws.{no_rows}
use Rattle.mt_client.proofs.SeriesLaws.{Series, IsSeries, Came, came_cut, in_lines, are_in_lines, groups}
use Rattle.mt_client.proofs.RelayLaws.{come_prepended, none_from, first_alike, sent_whole, lines_alike}
use Rattle.std.specs.Str.{bytes_eq}
use Rattle.std.proofs.lemmas.Slice.Eq.{bytes_eq-Decides}
use Rattle.mt_protocol.specs.declared.form.Form.TheVariants.{Done, Number, Place, Table, Locks, Opening, Posts, Commands, Followed, Never}
use Rattle.mt_protocol.specs.Verbs.{first_of, has_command_verb}
use Rattle.mt_lines.specs.declared.stream.Cut.{Cut}
use Rattle.mt_lines.specs.declared.stream.Output.{Ghosts as OutputGhosts}
use Rattle.mt_client.specs.Calls.{IsOut, IsOutInPart}

-- rows
rows_many : (n : ℕ) (ls : List (List ℕ)) → AreRowLines n ls → length ls ≡ n
rows_many n ls a = ap length a.all ∙ length-map a.rows line ∙ a.many

-- namespaces
pub part_made : (h : Heading) (seen : List ℕ) (rows : List (List ℕ)) → seen ≡ join_with_byte 32 (heading_words h.space h.number h.count) → (h.space < 2 ^ 64) × (h.number < 2 ^ 64) × (h.count ≤ most_rows) → AreRowLines h.count rows → IsBlockOf Namespace h.count (seen ∷ rows)
part_made h seen rows is small valid =
    let m = rows_many h.count rows valid in (
      record { space = h.space; number = h.number; count = h.count; rows = rows; small = small; all = ap (λ l. l ∷ rows) is; valid = valid },
      omega (arith, m),
    )

pub part_joined : (h : Heading) (seen : List ℕ) → seen ≡ join_with_byte 32 (heading_words h.space h.number h.count) → (h.space < 2 ^ 64) × (h.number < 2 ^ 64) × (h.count ≤ most_rows) → (ls ms : List (List ℕ)) → ls ≡ seen ∷ [] → AreRowLines h.count ms → IsBlockOf Namespace h.count (ls ++ ms)
part_joined h seen is small ls ms one valid = subst (λ x. IsBlockOf Namespace h.count (x ++ ms)) (sym one) (part_made h seen ms is small valid)

pub part_needs_heading : (seen : List ℕ) (middle : Option (List Item)) → ((space number count : ℕ) → space < 2 ^ 64 → number < 2 ^ 64 → count < 2 ^ 64 → seen ≢ join_with_byte 32 (heading_words space number count)) → NoneFirst IsPartLines (prepend_lines (seen ∷ []) middle)
part_needs_heading seen middle none lines later k e = none k.space k.number k.count k.small.0 k.small.1 (few k.count k.small.2) (sym (first_taken later (come_prepended (seen ∷ []) middle) k.all e).0)

-- nor one with more rows than there may be
pub part_needs_few : (h : Heading) (seen : List ℕ) (middle : Option (List Item)) → seen ≡ join_with_byte 32 (heading_words h.space h.number h.count) → (h.space < 2 ^ 64) × (h.number < 2 ^ 64) × (h.count < 2 ^ 64) → most_rows < h.count → NoneFirst IsPartLines (prepend_lines (seen ∷ []) middle)
part_needs_few h seen middle is small many lines later k e =
    let t = first_taken later (come_prepended (seen ∷ []) middle) k.all e in
    let w = heading_tells k.space k.number k.count h.space h.number h.count k.small.0 k.small.1 (few k.count k.small.2) small.0 small.1 small.2 (t.0 ∙ is) in
    let same = w.2 in
    let le = k.small.2 in
    omega (arith, same, le, many)

pub part_needs_rows : (h : Heading) (seen : List ℕ) (middle : Option (List Item)) → seen ≡ join_with_byte 32 (heading_words h.space h.number h.count) → (h.space < 2 ^ 64) × (h.number < 2 ^ 64) × (h.count < 2 ^ 64) → NoneFirst (AreRowLines h.count) middle
    → NoneFirst IsPartLines (prepend_lines (seen ∷ []) middle)
part_needs_rows h seen middle is small none lines later k e =
    let t = first_taken later (come_prepended (seen ∷ []) middle) k.all e in
    let w = heading_tells k.space k.number k.count h.space h.number h.count k.small.0 k.small.1 (few k.count k.small.2) small.0 small.1 small.2 (t.0 ∙ is) in
    none k.rows later (subst (λ n. AreRowLines n k.rows) w.2 k.valid) t.1

-- posts
pub post_made : (n : ℕ) (seen : List ℕ) (others : List (List ℕ)) (text begun : List ℕ) → Some n ≡ event_count (words seen) → length others ≡ n → begun ≡ [] ++ ended seen → text ≡ begun ++ printed others → ((post : PostView) × IsSentPost post × (text ≡ post_text post))
    → IsBlockOf Post n (seen ∷ others) × (text ≡ printed (seen ∷ others))
post_made n seen others text begun counts many began is post =
    let whole : text ≡ printed (seen ∷ others) = is ∙ ap (λ x. x ++ printed others) began in (
      (record { first = seen; others = others; post = post.0; all = refl; counted = sym counts ∙ ap Some (sym many); valid = post.1; text = sym whole ∙ post.2 }, omega (arith, many)),
      whole,
    )

pub post_needs_count : (seen : List ℕ) (middle : Option (List Item)) → None ≡ event_count (words seen) → NoneFirst IsPostLines (prepend_lines (seen ∷ []) middle)
post_needs_count seen middle none lines later k e =
    let t = first_taken later (come_prepended (seen ∷ []) middle) k.all e in
    let no : None ≡ Some (length k.others) = none ∙ ap (λ l. event_count (words l)) (sym t.0) ∙ k.counted in
    cc

post_many : (n : ℕ) (seen : List ℕ) (middle : Option (List Item)) (later : List Item) (lines : List (List ℕ)) → Some n ≡ event_count (words seen) → (k : IsPostLines lines) → prepend_lines (seen ∷ []) middle ≡ Some (texts lines ++ later) → length k.others ≡ n
post_many n seen middle later lines counts k e =
    let t = first_taken later (come_prepended (seen ∷ []) middle) k.all e in
    sym (same_Some n (length k.others) (counts ∙ ap (λ l. event_count (words l)) (sym t.0) ∙ k.counted))

-- no post comes first where fewer lines stand behind its first one than it tells
pub post_needs_lines : (n : ℕ) (seen : List ℕ) (middle : Option (List Item)) → Some n ≡ event_count (words seen) → NoneFirst (AreSoMany n) middle → NoneFirst IsPostLines (prepend_lines (seen ∷ []) middle)
post_needs_lines n seen middle counts none lines later k e = none k.others later (post_many n seen middle later lines counts k e) (first_taken later (come_prepended (seen ∷ []) middle) k.all e).1

-- nor where the text of these lines is that of no post
pub post_needs_text : (n : ℕ) (seen : List ℕ) (middle after : Option (List Item)) (text begun : List ℕ) → Some n ≡ event_count (words seen) → begun ≡ [] ++ ended seen
    → HasReadMore n middle after begun text → ((post : PostView) → IsSentPost post → text ≢ post_text post) → NoneFirst IsPostLines (prepend_lines (seen ∷ []) middle)
post_needs_text n seen middle after text begun counts began read none lines later k e =
    let t = first_taken later (come_prepended (seen ∷ []) middle) k.all e in
    let a = lines_alike read.0 k.others later (read.1 ∙ sym (post_many n seen middle later lines counts k e)) read.2 t.1 in
    let front : begun ++ printed read.0 ≡ printed (k.first ∷ k.others) = (λ i. began i ++ printed (a.0 i)) ∙ ap (λ l. printed (l ∷ k.others)) (sym t.0) in
    none k.post k.valid (read.3 ∙ front ∙ ap printed (sym k.all) ∙ k.text)

-- no post comes behind its first line, where no lines of one come with it
pub post_behind : (seen : List ℕ) (middle : Option (List Item)) → NoneFirst IsPostLines (prepend_lines (seen ∷ []) middle) → NoneFirst (IsPostBehind seen) middle
post_behind seen middle none lines later k e =
    none (seen ∷ lines) later (record { first = seen; others = lines; post = k.0; all = refl; counted = post_counted seen lines k.0 k.1 k.2; valid = k.1; text = printed_post (seen ∷ lines) k.0 k.2 }) (ap (prepend_lines (seen ∷ [])) e)

-- the line of a command, alone and behind none
pub command_made : (seen : List ℕ) → has_command_verb seen ≡ true → (ls : List (List ℕ)) → ls ≡ seen ∷ [] → IsBlockOf Command 0 ls
command_made seen is ls one = ((seen, is, one), ap length one)

pub no_command : (seen : List ℕ) (middle : Option (List Item)) → has_command_verb seen ≡ false → NoneFirst IsCommandLines (prepend_lines (seen ∷ []) middle)
no_command seen middle is lines later k e =
    let t = first_taken later (come_prepended (seen ∷ []) middle) k.2 e in
    let both : true ≡ false = sym k.1 ∙ ap has_command_verb t.0 ∙ is in
    cc

-- two blocks that come first have as many lines
abbrev pub Alike : (List (List ℕ) → Type 0) → Type 0
Alike kind = (g h : List (List ℕ)) (middle later : List Item) → kind g → kind h → texts g ++ middle ≡ texts h ++ later → length g ≡ length h

-- the group of lines that comes first is the one that was read
pub group_only : {kind : List (List ℕ) → Type 0} → Alike kind → (xs : List (List ℕ)) (middle after : Option (List Item)) → kind xs → ComeFirst middle xs after → (g : List (List ℕ)) (later : List Item) → kind g → middle ≡ Some (texts g ++ later) → (length g ≡ length xs) × (after ≡ Some later)
group_only alike xs middle after is read g later other e =
    let r = read.known _ e in
    let many = alike xs g r.0 later is other (sym r.2) in
    (sym many, (lines_alike xs g later many read e).1)

parts_alike : Alike IsPartLines
parts_alike g h middle later p q e =
    let t = first_alike (sym (ap (λ ls. texts ls ++ middle) p.all) ∙ e ∙ ap (λ ls. texts ls ++ later) q.all) in
    let w = heading_tells q.space q.number q.count p.space p.number p.count q.small.0 q.small.1 (few q.count q.small.2) p.small.0 p.small.1 (few p.count p.small.2) (sym t.0) in
    let first = ap length p.all in
    let second = ap length q.all in
    let same = rows_many p.count p.rows p.valid ∙ sym w.2 ∙ sym (rows_many q.count q.rows q.valid) in
    omega (arith, first, second, same)

-- two posts that come first have as many lines, and so have two blocks of one kind
pub posts_alike : Alike IsPostLines
posts_alike g h middle later p q e =
    let m = post_many (length p.others) p.first (Some (texts p.others ++ middle)) later h (sym p.counted) q (ap Some (sym (ap (λ ls. texts ls ++ middle) p.all) ∙ e)) in
    let first = ap length p.all in
    let second = ap length q.all in
    omega (arith, first, second, m)

-- and so have two commands
commands_alike : Alike IsCommandLines
commands_alike g h middle later p q e = ap length p.2 ∙ sym (ap length q.2)

pub blocks_alike : (block : Block) → Alike (IsBlock block)
blocks_alike Namespace = parts_alike
blocks_alike Post = posts_alike
blocks_alike Command = commands_alike

-- no block of a kind comes first where none does in the same lines
pub block_read : (block read : Block) {xs : List (List ℕ)} {before middle : Option (List Item)} → read ≡ block → ComeFirst before xs middle → NoneFirst (IsBlock read) (prepend_lines xs middle) → NoneFirst (IsBlock block) before
block_read block read {xs} {before} is came none = subst (λ b. NoneFirst (IsBlock b) before) is (none_from came none)

-- no block comes first where no line does
pub block_needs_line : (block : Block) (before : Option (List Item)) → NoneFirst (AreSoMany 1) before → NoneFirst (IsBlock block) before
block_needs_line Namespace before none = needs_line (λ _ k. (_, _, k.all)) none
block_needs_line Post before none = needs_line (λ _ k. (_, _, k.all)) none
block_needs_line Command before none = needs_line (λ _ k. (_, _, k.2)) none

-- blocks, and one more
pub flat_more : (ls ms : List (List ℕ)) (blocks : List (List (List ℕ))) → ls ≡ flat_map (λ block. block) blocks → ls ++ ms ≡ flat_map (λ block. block) (blocks ++ ms ∷ [])
flat_more ls ms blocks e = ap (λ x. x ++ ms) e ∙ ap (λ x. flat_map (λ block. block) blocks ++ x) (sym (append-nil ms)) ∙ sym (flat_map-append (λ block. block) blocks (ms ∷ []))

abbrev pub AreSoFar : Block → ℕ → ℕ → List (List ℕ) → Type 0
AreSoFar block count left lines = AreBlocks (IsBlock block) lines × (length lines + left ≡ count)

pub blocks_join : (block : Block) (count left rest behind : ℕ) → left ≡ 1 + (behind + rest) → (ls ms : List (List ℕ)) → AreSoFar block count left ls → IsBlockOf block behind ms → AreSoFar block count rest (ls ++ ms)
blocks_join block count left rest behind is ls ms a g =
    let l = length-append ls ms in
    let m = g.1 in
    let n = a.1 in (
      record { blocks = a.0.blocks ++ ms ∷ []; each = each_last (IsBlock block) a.0.blocks ms a.0.each g.0; all = flat_more ls ms a.0.blocks a.0.all },
      omega (arith, l, m, n, is),
    )

-- blocks, counted by their lines
abbrev pub blocks_of : Block → Series
blocks_of block = groups (IsBlock block) (λ n ls. ls ≡ [])

pub are_blocks : (block : Block) (count : ℕ) (lines : List (List ℕ)) → AreBlockLines block count lines → IsSeries (in_lines (blocks_of block)) (count, tt) lines
are_blocks block count lines a = are_in_lines (blocks_of block) count tt a.0.blocks lines a.0.each a.1 a.0.all

-- the block that comes first is the one that was read
pub one_block : (block : Block) (behind : ℕ) (middle after : Option (List Item)) → HasRead (IsBlockOf block behind) middle after → (g : List (List ℕ)) (later : List Item) → IsBlock block g → middle ≡ Some (texts g ++ later) → (length g ≡ 1 + behind) × ◌≡◌ {A = Unit {0}} tt tt × (after ≡ Some later)
one_block block behind middle after h g later is e =
    let o = group_only (blocks_alike block) h.0 middle after h.1.0 h.2 g later is e in
    (o.0 ∙ h.1.1, refl, o.1)

-- the lines of an answer that is known by its first line
pub headed_whole : (form : Form) (told : Bool) (count : ℕ) (seen : List ℕ) → Some told ≡ verdict seen → Some count ≡ lines_behind form told seen → (ls ms : List (List ℕ)) → ls ≡ seen ∷ [] → AreBehind form count ms → IsHeaded form (ls ++ ms) told
headed_whole form told count seen v n ls ms one behind = record { first = seen; others = ms; count = count; all = ap (λ x. x ++ ms) one; tells = sym v; counted = sym n; behind = behind }

pub headed_needs_verdict : (form : Form) (seen : List ℕ) (before middle : Option (List Item)) → ComeFirst before (seen ∷ []) middle → None ≡ verdict seen → NoneFirst (λ all. (told : Bool) × IsHeaded form all told) before
headed_needs_verdict form seen before middle there tells lines later k e =
    let t = first_taken later there k.1.all e in
    let no : None ≡ Some k.0 = tells ∙ ap verdict (sym t.0) ∙ k.1.tells in
    cc

pub headed_needs_count : (form : Form) (told : Bool) (seen : List ℕ) (before middle : Option (List Item)) → ComeFirst before (seen ∷ []) middle → Some told ≡ verdict seen → None ≡ lines_behind form told seen → NoneFirst (λ all. (told : Bool) × IsHeaded form all told) before
headed_needs_count form told seen before middle there tells counts lines later k e =
    let t = first_taken later there k.1.all e in
    let told_is : told ≡ k.0 = same_Some told k.0 (tells ∙ ap verdict (sym t.0) ∙ k.1.tells) in
    let no : None ≡ Some k.1.count = counts ∙ (λ i. lines_behind form (told_is i) (sym t.0 i)) ∙ k.1.counted in
    cc

pub headed_needs_behind : (form : Form) (told : Bool) (count : ℕ) (seen : List ℕ) (before middle : Option (List Item)) → ComeFirst before (seen ∷ []) middle → Some told ≡ verdict seen → Some count ≡ lines_behind form told seen → NoneFirst (AreBehind form count) middle
    → NoneFirst (λ all. (told : Bool) × IsHeaded form all told) before
headed_needs_behind form told count seen before middle there tells counts none lines later k e =
    let t = first_taken later there k.1.all e in
    let told_is : told ≡ k.0 = same_Some told k.0 (tells ∙ ap verdict (sym t.0) ∙ k.1.tells) in
    let same = same_Some count k.1.count (counts ∙ (λ i. lines_behind form (told_is i) (sym t.0 i)) ∙ k.1.counted) in
    none k.1.others later (subst (λ n. AreBehind form n k.1.others) (sym same) k.1.behind) t.1

-- so many posts
abbrev pub ArePosts : ℕ → List (List ℕ) → Type 0
ArePosts taken lines = (posts : List (List (List ℕ))) × (length posts ≡ taken) × AllByRecursion IsPostLines posts × (lines ≡ flat_map (λ post. post) posts)

pub posts_join : (taken behind : ℕ) (ls ms : List (List ℕ)) → ArePosts taken ls → IsBlockOf Post behind ms → ArePosts (taken + 1) (ls ++ ms)
posts_join taken behind ls ms a g =
    let l = length-append a.0 (ms ∷ []) in
    let m = a.1 in
    (a.0 ++ ms ∷ [], omega (arith, l, m), each_last IsPostLines a.0 ms a.2 g.0, flat_more ls ms a.0 a.3)

pub posts_ended : (taken : ℕ) (told : Bool) (seen : List ℕ) → taken < most_posts → Some told ≡ verdict seen → IsEnding told taken seen → (ls ms : List (List ℕ)) → ArePosts taken ls → ms ≡ seen ∷ [] → IsFollowAnswer (ls ++ ms) told
posts_ended taken told seen lt tells ends ls ms a one = record {
  posts = a.0;
  last = seen;
  each = a.2;
  all = λ i. a.3 i ++ one i;
  tells = sym tells;
  ends = subst (λ n. IsEnding told n seen) (sym a.1) ends;
  bounded = subst (λ n. n < most_posts) (sym a.1) lt;
}

-- the first line of a post tells nothing
silent_words : (ws : List (List ℕ)) (n : ℕ) → event_count ws ≡ Some n → (if bytes_eq (first_of ws) (codes "ok") then Some true else (if bytes_eq (first_of ws) (codes "no") then Some false else None)) ≡ None
silent_words [] n e = cc
silent_words (a ∷ []) n e = cc
silent_words (a ∷ b ∷ []) n e = cc
silent_words (a ∷ b ∷ d ∷ []) n e = cc
silent_words (a ∷ b ∷ d ∷ f ∷ rest) n e = let same = λ (is : bytes_eq a (codes "event") ≡ true). (bytes_eq-Decides a (codes "event")).0 is in grind (arith, same, e)

-- posts up to the line that ends so many of them
abbrev pub answer_posts : Series
answer_posts = groups IsPostLines (λ n ls. (last : List ℕ) × (ls ≡ last ∷ []) × (told : Bool) × (verdict last ≡ Some told) × IsEnding told n last × (n < most_posts))

abbrev pub Whole : List (List ℕ) → Type 0
Whole lines = (told : Bool) × IsFollowAnswer lines told

pub whole_posts : (lines : List (List ℕ)) → Whole lines → IsSeries answer_posts tt lines
whole_posts lines f = record { items = f.1.posts; last = f.1.last ∷ []; due = f.1.each; ends = (f.1.last, refl, f.0, f.1.tells, f.1.ends, f.1.bounded); all = f.1.all }

-- a line that tells something begins no post, and one that tells nothing ends none
no_post_begins : (told : Bool) (seen : List ℕ) (middle rest : Option (List Item)) → ComeFirst middle (seen ∷ []) rest → Some told ≡ verdict seen → NoneFirst IsPostLines middle
no_post_begins told seen middle rest there tells lines later k e =
    let t = first_taken later there k.all e in
    let not : Some told ≡ None = tells ∙ ap verdict (sym t.0) ∙ silent_words (words k.first) (length k.others) k.counted in
    cc

pub no_end_comes : (taken : ℕ) (seen : List ℕ) (middle rest : Option (List Item)) → ComeFirst middle (seen ∷ []) rest → None ≡ verdict seen → NoneFirst (λ ls. answer_posts.AreDue tt [] × answer_posts.Ends taken tt ls) middle
no_end_comes taken seen middle rest there tells lines later h e =
    let t = first_taken later there h.1.1 e in
    let not : None ≡ Some h.1.2 = tells ∙ ap verdict (sym t.0) ∙ h.1.3 in
    cc

-- no answer came first where a line is no end of so many posts
pub answer_ending : (taken : ℕ) (told : Bool) (seen : List ℕ) (before middle rest : Option (List Item)) → Came answer_posts taken tt tt before middle → ComeFirst middle (seen ∷ []) rest → Some told ≡ verdict seen → (IsEnding told taken seen → ⊥) → NoneFirst Whole before
answer_ending taken told seen before middle rest came there tells not =
    came_cut answer_posts taken tt tt before middle whole_posts came
    (λ ls later h e.
    let t = first_taken later there h.1.1 e in
    let alike : told ≡ h.1.2 = same_Some told h.1.2 (tells ∙ ap verdict (sym t.0) ∙ h.1.3) in
    not (subst (λ b. IsEnding b taken seen) (sym alike) (subst (λ l. IsEnding h.1.2 taken l) t.0 h.1.4)))
    (λ g later n made last is more ends. no_post_begins told seen middle rest there tells g later is)

-- no line stands behind the first one of these answers
behind_none : (form : Form) → ((form ≡ Done) ⊎ ((form ≡ Number) ⊎ ((form ≡ Place) ⊎ ((form ≡ Followed) ⊎ (form ≡ Never))))) → (count : ℕ) (lines : List (List ℕ)) → AreBehind form count lines → count ≡ 0
behind_none Table is count lines k = grind (arith, is)
behind_none Locks is count lines k = grind (arith, is)
behind_none Opening is count lines k = grind (arith, is)
behind_none Posts is count lines k = grind (arith, is)
behind_none Commands is count lines k = grind (arith, is)
behind_none form is count lines k = k.1

pub behind_needs_none : (form : Form) → ((form ≡ Done) ⊎ ((form ≡ Number) ⊎ ((form ≡ Place) ⊎ ((form ≡ Followed) ⊎ (form ≡ Never))))) → (count : ℕ) (before : Option (List Item)) → count ≢ 0 → NoneFirst (AreBehind form count) before
behind_needs_none form is count before other lines later k e = other (behind_none form is count lines k)

pub behind_as_none : (form : Form) → ((form ≡ Done) ⊎ ((form ≡ Number) ⊎ ((form ≡ Place) ⊎ ((form ≡ Followed) ⊎ (form ≡ Never))))) → (count : ℕ) → count ≡ 0 → AreBehind form count []
behind_as_none Table is count e = let no : ◌≡◌ {A = ℕ} 0 1 = grind (arith, is) in absurd (omega (arith, no))
behind_as_none Locks is count e = let no : ◌≡◌ {A = ℕ} 0 1 = grind (arith, is) in absurd (omega (arith, no))
behind_as_none Opening is count e = let no : ◌≡◌ {A = ℕ} 0 1 = grind (arith, is) in absurd (omega (arith, no))
behind_as_none Posts is count e = let no : ◌≡◌ {A = ℕ} 0 1 = grind (arith, is) in absurd (omega (arith, no))
behind_as_none Commands is count e = let no : ◌≡◌ {A = ℕ} 0 1 = grind (arith, is) in absurd (omega (arith, no))
behind_as_none form is count e = (refl, e)

-- every answer but that of posts that are followed is known by its first line
pub heads : (form : Form) → ((form ≡ Done) ⊎ ((form ≡ Number) ⊎ ((form ≡ Place) ⊎ ((form ≡ Table) ⊎ ((form ≡ Locks) ⊎ ((form ≡ Opening) ⊎ ((form ≡ Posts) ⊎ ((form ≡ Commands) ⊎ (form ≡ Never))))))))) → ◌≡◌ {A = List (List ℕ) → Bool → Type 0} (IsHeaded form) (IsAnswer form)
heads form is = grind (arith, is)

-- a line that refuses tells `no`
words_tell : (ws : List (List ℕ)) → refuses ws ≡ true → (if bytes_eq (first_of ws) (codes "ok") then Some true else (if bytes_eq (first_of ws) (codes "no") then Some false else None)) ≡ Some false
words_tell [] e = cc
words_tell (a ∷ []) e = cc
words_tell (a ∷ b ∷ []) e = let same = λ (is : bytes_eq a (codes "no") ≡ true). (bytes_eq-Decides a (codes "no")).0 is in grind (arith, same, e)
words_tell (a ∷ b ∷ d ∷ rest) e = cc

pub refusal_tells : (line : List ℕ) → is_refusal line ≡ true → verdict line ≡ Some false
refusal_tells line e = words_tell (words line) e

-- a refusal is a whole answer to each request
headed_refusal : (form : Form) (line : List ℕ) → AreBehind form 0 [] → is_refusal line ≡ true → IsHeaded form (line ∷ []) false
headed_refusal form line behind e = record { first = line; others = []; count = 0; all = refl; tells = refusal_tells line e; counted = rw e refl; behind = behind }

pub refusal_answers : (form : Form) (line : List ℕ) → is_refusal line ≡ true → IsAnswer form (line ∷ []) false
refusal_answers Done line e = headed_refusal Done line (refl, refl) e
refusal_answers Number line e = headed_refusal Number line (refl, refl) e
refusal_answers Place line e = headed_refusal Place line (refl, refl) e
refusal_answers Table line e = headed_refusal Table line no_rows e
refusal_answers Locks line e = headed_refusal Locks line no_rows e
refusal_answers Opening line e = headed_refusal Opening line (record { blocks = []; each = tt; all = refl }, refl) e
refusal_answers Posts line e = headed_refusal Posts line (record { blocks = []; each = tt; all = refl }, refl) e
refusal_answers Commands line e = headed_refusal Commands line (record { blocks = []; each = tt; all = refl }, refl) e
refusal_answers Followed line e = record { posts = []; last = line; each = tt; all = refl; tells = refusal_tells line e; ends = e; bounded = omega arith }
refusal_answers Never line e = headed_refusal Never line (refl, refl) e

pub refused_passed : (form : Form) (refusal : List ℕ) (before after : Option (List Item)) (old new : Option (List ℕ)) → HasRefused refusal before after → Appends old new (ended refusal)
    → HasPassed (λ all. IsAnswer form all false) before after old new
refused_passed form refusal before after old new refused e = (refusal ∷ [], refusal_answers form refusal refused.is, record { read = refused.read; out = subst (λ x. Appends old new x) (sym (append-nil (ended refusal))) e })

-- what of a text went out, all of it or not
pub part_sent : {W : Type 0} (w : OutputGhosts W) (text : List ℕ) (old new : W) (r : Result (Unit {0}) Cut) → OnOk r (IsOut w text old new) → OnErr r (IsOutInPart w text old new) → IsSentPart text (w.contents old) (w.contents new)
part_sent w text old new (Ok u) sent cut = sent_whole text (w.contents old) (w.contents new) sent.went
part_sent w text old new (Err f) sent cut = let k = cut.cut in record { count = k.count; out = k.out }
