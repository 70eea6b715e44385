-- What a mirror has read of posts, the texts that the lines are, and what cannot come first where a post is refused.
use Rattle.std.proofs.Common.{◌≡◌, ℕ, ◌+◌, ◌≤◌, IfOk, Result, Ok, Err, Bool, true, false, List, [], ◌∷◌, ◌++◌, map, length, refl, sym, ap, subst, ◌∙◌, arith, length-append, codes, decimal, Option, Some, inl, inr}
use Rattle.std.proofs.lemmas.List.{append-nil, length-map}
use Rattle.std.proofs.lemmas.Grind.{flat_map-append, fold-append}
use Rattle.std.specs.List.{join_with_byte}
use Rattle.mt_lines.specs.Words.{words}
use Rattle.mt_lines.proofs.PieceLaws.{pieces_joined}
use Rattle.mt_lines.specs.Lines.{Item}
use Rattle.mt_skel.proofs.MiddleLaws.{and-true, each_last}
use Rattle.mt_events.specs.Posts.{PostView, post_text, ended, event_words, gone_line, row_line, post_lines}
use Rattle.mt_events.specs.Mirrors.{MirrorView, mirrored}
use Rattle.mt_events.specs.Texts.{count_text}
use Rattle.mt_client.specs.Reading.{texts, printed, ComeFirst, NoneFirst}
use Rattle.mt_client.specs.Mirroring.{IsSentPost, may_come, may_all_come, counted_line, opening_lines, HasOpened, IsPosted, HasFollowed, HasFollowedSome, HasFollowedAll, HasMirrored}
use Rattle.mt_client.proofs.OpeningLaws.{first_taken, unrefused_or, opening_is, opened_alike}
use Rattle.mt_client.proofs.SeriesLaws.{IsSeries, following, are_both, up_to}
use Rattle.mt_client.proofs.RelayLaws.{texts_split, printed-append, come_none, come_both, lines_alike}
use Rattle.std.proofs.lemmas.Bool.{false≢true}
use Rattle.std.proofs.lemmas.Bool.Decides.{nat_tests}
use Rattle.std.proofs.lemmas.Option.{same_Some}
use Rattle.mt_client.specs.Limits.{most_post_lines, at_most}
use Rattle.mt_lines.proofs.NumberLaws.{number_decimal}
use Rattle.mt_events.proofs.PostLaws.{text_tells, event_lacks}
use Rattle.mt_client.specs.Awaited.{IsOneRefusal, IsRefusedOr, IsOpening, IsSuchPost, IsPostBehind, IsOnlyPost, IsOnlyApplied, IsFollowing, IsMirroring}
use Rattle.mt_client.specs.Requests.{event_count}

-- posts one after another
pub none_followed : (before : Option (List Item)) (mirror : MirrorView) → HasFollowedSome 0 before before mirror mirror
none_followed before mirror = record { lines = []; posts = []; valid = tt; read = come_none before; text = refl; many = refl; follows = record { are = refl; make = refl } }

pub followed_more : (n : ℕ) (before middle after : Option (List Item)) (old between new : MirrorView) → HasFollowedSome n before middle old between → HasFollowed middle after between new → HasFollowedSome (n + 1) before after old new
followed_more n before middle after old between new f h =
    let l = length-append f.posts (h.post ∷ []) in
    record {
      lines = f.lines ++ h.lines;
      posts = f.posts ++ h.post ∷ [];
      valid = each_last IsSentPost f.posts h.post f.valid h.valid;
      read = come_both f.read h.read;
      text =
          printed-append f.lines h.lines ∙ (λ k. f.text k ++ (h.text ∙ sym (append-nil (post_text h.post))) k)
          ∙ sym (flat_map-append post_text f.posts (h.post ∷ []));
      many = let m = f.many in omega (arith, l, m);
      follows = record {
        are = are_both following f.posts (h.post ∷ []) old f.follows.are (subst (λ m. may_all_come m (h.post ∷ []) ≡ true) f.follows.make h.follows.are);
        make = h.follows.make ∙ ap (λ m. mirrored m h.post) f.follows.make ∙ sym (fold-append mirrored old f.posts (h.post ∷ []));
      };
    }

-- so many posts, and the line that ends them
pub followed_all : (count : ℕ) (before middle after : Option (List Item)) (old new : MirrorView) → HasFollowedSome count before middle old new → ComeFirst middle (counted_line count ∷ []) after → HasFollowedAll count before after old new
followed_all count before middle after old new f e = record {
  lines = f.lines ++ counted_line count ∷ [];
  posts = f.posts;
  valid = f.valid;
  read = come_both f.read e;
  text = printed-append f.lines (counted_line count ∷ []) ∙ (λ k. f.text k ++ append-nil (count_text count) k);
  many = f.many;
  follows = f.follows;
}

-- an opening, and behind it so many posts with their end
pub mirrored_whole : (space count : ℕ) (before middle after : Option (List Item)) (found made : MirrorView) → HasOpened space before middle found → HasFollowedAll count middle after found made → HasMirrored space count before after made
mirrored_whole space count before middle after found made o f = record {
  found = found;
  posts = f.posts;
  lines = opening_lines found ++ f.lines;
  shown = o.shown;
  valid = f.valid;
  of = o.of;
  read = come_both o.read f.read;
  text = printed-append (opening_lines found) f.lines ∙ (λ k. opening_is found k ++ f.text k);
  many = f.many;
  follows = f.follows;
}

-- a post behind its first line
pub followed_by_post : (first : List ℕ) (post : PostView) (before middle after : Option (List Item)) (old new : MirrorView) → ComeFirst before (first ∷ []) middle → IsPosted first middle after post → IsSentPost post → (may_come old post ≡ true) × (new ≡ mirrored old post) → HasFollowed before after old new
followed_by_post first post before middle after old new e p valid applied = record {
  lines = first ∷ p.others;
  post = post;
  valid = valid;
  read = come_both e p.read;
  text = p.text;
  follows = record { are = and-true (may_come old post) true applied.0 refl; make = applied.1 };
}

-- the line behind so many posts
pub ok_both : {A E : Type 0} {P Q R : A → Type 0} (r : Result A E) → ((a : A) → P a → Q a → R a) → IfOk r P → IfOk r Q → IfOk r R
ok_both (Ok a) go p q = go a p q
ok_both (Err e) go p q = tt

abbrev pub behind_lines : PostView → List (List ℕ)
behind_lines p = map gone_line p.gone ++ map row_line p.rows

abbrev pub event_line : PostView → List ℕ
event_line p = join_with_byte 32 (event_words p.space p.number (length p.gone + length p.rows))

within : (n : ℕ) → n ≤ most_post_lines → at_most most_post_lines (Some n) ≡ Some n
within n le = grind (arith, nat_tests, le)

-- the first line of a post tells how many lines stand behind it
pub post_counted : (seen : List ℕ) (others : List (List ℕ)) (p : PostView) → IsSentPost p → seen ∷ others ≡ post_lines p → event_count (words seen) ≡ Some (length others)
post_counted seen others p valid all =
    let both : seen ∷ others ≡ event_line p ∷ behind_lines p = all in
    let f : (seen ≡ event_line p) × (others ≡ behind_lines p) = (cc, cc) in
    let n : ℕ = length p.gone + length p.rows in
    let e = ap length f.1 in
    let l = length-append (map gone_line p.gone) (map row_line p.rows) in
    let gone = length-map p.gone gone_line in
    let rows = length-map p.rows row_line in
    let many : n ≡ length others = omega (arith, e, l, gone, rows) in
    let left = valid.gone in
    let come = valid.rows in
    ap (λ l. event_count (words l)) f.0 ∙ ap event_count (pieces_joined 32 (codes "event") (decimal p.space ∷ decimal p.number ∷ decimal n ∷ []) (event_lacks p.space p.number n valid.valid.space valid.valid.number valid.valid.counted))
    ∙ ap (at_most most_post_lines) (number_decimal n valid.valid.counted) ∙ within n (omega (arith, left, come)) ∙ ap Some many

pub event_many : (n : ℕ) (seen : List ℕ) (others : List (List ℕ)) (p : PostView) → Some n ≡ event_count (words seen) → IsSentPost p → seen ∷ others ≡ post_lines p → length others ≡ n
event_many n seen others p counts valid all = sym (same_Some n (length others) (counts ∙ post_counted seen others p valid all))

-- the lines of a post are printed as its text
pub printed_post : (lines : List (List ℕ)) (p : PostView) → lines ≡ post_lines p → printed lines ≡ post_text p
unfolding post_text
printed_post lines p e = ap printed e

-- lines that were read behind the first one of a post
abbrev pub HasReadMore : ℕ → Option (List Item) → Option (List Item) → List ℕ → List ℕ → Type 0
HasReadMore n before after begun text = (all : List (List ℕ)) × (length all ≡ n) × ComeFirst before all after × (text ≡ begun ++ printed all)

-- a post that was read behind its first line is the one that comes there
pub behind_only : (n : ℕ) (seen : List ℕ) (before after : Option (List Item)) (begun text : List ℕ) (post : PostView) → Some n ≡ event_count (words seen) → begun ≡ ended seen → HasReadMore n before after begun text
    → IsSentPost post → text ≡ post_text post → IsOnlyPost seen before after post
behind_only n seen before after begun text post counts began read valid said other others rest valid_other all e =
    let many = event_many n seen others other counts valid_other all in
    let a = lines_alike read.0 others rest (read.1 ∙ sym many) read.2 e in
    let whole : text ≡ printed (seen ∷ others) = read.3 ∙ (λ i. began i ++ printed (a.0 i)) in
    (text_tells other post valid_other.valid valid.valid (sym (printed_post (seen ∷ others) other all) ∙ sym whole ∙ said), a.1)

pub behind_posted : (n : ℕ) (seen : List ℕ) (before after : Option (List Item)) (begun text : List ℕ) (post : PostView) → Some n ≡ event_count (words seen) → begun ≡ ended seen → HasReadMore n before after begun text → text ≡ post_text post → IsPosted seen before after post
behind_posted n seen before after begun text post counts began read said = record {
  others = read.0;
  counted = sym counts ∙ ap Some (sym read.1);
  read = read.2;
  text = ap (λ b. b ++ printed read.0) (sym began) ∙ sym read.3 ∙ said;
}

-- the first line of a post that comes first was read, and the others come first then
pub post_taken : (seen : List ℕ) (before middle : Option (List Item)) (later : List Item) (lines : List (List ℕ)) (p : PostView) → ComeFirst before (seen ∷ []) middle → lines ≡ post_lines p → before ≡ Some (texts lines ++ later)
    → (others : List (List ℕ)) × (seen ∷ others ≡ post_lines p) × (middle ≡ Some (texts others ++ later))
post_taken seen before middle later lines p there is e =
    let t = first_taken later there is e in
    (behind_lines p, ap (λ l. l ∷ behind_lines p) (sym t.0), t.1)

-- none comes first where no post does, or one that the test does not accept
pub such_needs_post : (test : PostView → Bool) (seen : List ℕ) (before middle : Option (List Item)) → ComeFirst before (seen ∷ []) middle → NoneFirst (IsPostBehind seen) middle → NoneFirst (IsSuchPost test) before
such_needs_post test seen before middle there none lines later k e =
    let t = post_taken seen before middle later lines k.post there k.all e in
    none t.0 later (k.post, k.valid, t.1) t.2

pub such_needs_such : (test : PostView → Bool) (seen : List ℕ) (before middle after : Option (List Item)) (post : PostView) → ComeFirst before (seen ∷ []) middle → IsOnlyPost seen middle after post → test post ≡ false → NoneFirst (IsSuchPost test) before
such_needs_such test seen before middle after post there only other lines later k e =
    let t = post_taken seen before middle later lines k.post there k.all e in
    let o = only k.post t.0 later k.valid t.1 t.2 in
    false≢true (sym other ∙ sym (ap test o.0) ∙ k.such)

-- the one that was read was applied
pub only_applied : {S : Type 0} (apply : S → PostView → S) (seen : List ℕ) (before middle after : Option (List Item)) (post : PostView) (old new : S) → ComeFirst before (seen ∷ []) middle → IsOnlyPost seen middle after post → new ≡ apply old post → IsOnlyApplied apply old new before after
only_applied apply seen before middle after post old new there only make other rest valid e =
    let t = post_taken seen before middle rest (post_lines other) other there refl e in
    let o = only other t.0 rest valid t.1 t.2 in
    (make ∙ ap (apply old) (sym o.0), o.1)

-- posts that follow a mirror, up to their end
pub follows : (end : List ℕ) (count : ℕ) (mirror : MirrorView) (lines : List (List ℕ)) → IsFollowing end count mirror lines → IsSeries (up_to following end count) mirror lines
follows end count mirror lines f = record { items = f.posts; last = f.last ∷ []; due = (f.valid, f.next); ends = (f.last, refl, f.ends); all = f.all }

-- a whole mirroring
pub mirroring_needs_opening : (space count : ℕ) (before : Option (List Item)) → NoneFirst (IsRefusedOr (IsOpening space)) before → NoneFirst (IsRefusedOr (IsMirroring space count)) before
mirroring_needs_opening space count before none lines later (inl r) e = none lines later (inl r) e
mirroring_needs_opening space count before none lines later (inr k) e =
    none (opening_lines k.found) (texts k.others ++ later) (inr (record { found = k.found; shown = k.shown; of = k.of; all = refl }))
    (e ∙ ap Some (ap (λ ls. texts ls ++ later) k.all ∙ texts_split (opening_lines k.found) k.others later))

pub mirroring_needs_posts : (space count : ℕ) (mirror : MirrorView) (before middle : Option (List Item)) → HasOpened space before middle mirror → NoneFirst IsOneRefusal before
    → NoneFirst (IsFollowing (counted_line count) count mirror) middle → NoneFirst (IsRefusedOr (IsMirroring space count)) before
mirroring_needs_posts space count mirror before middle o refusal none =
    unrefused_or refusal (λ lines later k e.
    let a = opened_alike space before middle (texts k.others ++ later) mirror k.found o k.shown (e ∙ ap Some (ap (λ ls. texts ls ++ later) k.all ∙ texts_split (opening_lines k.found) k.others later)) in
    none k.others later (subst (λ m. IsFollowing (counted_line count) count m k.others) (sym a.0) k.following) a.1)
