-- Posts that were told, one after another, also counted by their lines, and what stands behind them.
use Rattle.std.proofs.Common.{◌≡◌, ◌≢◌, ℕ, zero, suc, ◌+◌, ◌≤◌, true, List, [], ◌∷◌, ◌++◌, replicate, refl, sym, ap, subst, ◌∙◌, arith, append_assoc, length-append, codes, inl, inr, Option, Some, length}
use Rattle.std.specs.Io.KnownBytes.{Appends, Keeps}
use Rattle.std.proofs.KnownBytes.{Appends-nil, Appends-trans, Appends-kept}
use Rattle.std.proofs.lemmas.List.{append-nil}
use Rattle.std.proofs.lemmas.Grind.{flat_map-append, fold-append}
use Rattle.std.specs.List.{flat_map}
use Rattle.mt_skel.proofs.MiddleLaws.{and-true, each_append}
use Rattle.mt_lines.specs.Lines.{Item}
use Rattle.mt_events.specs.Posts.{PostView, post_text, ended}
use Rattle.mt_events.specs.Mirrors.{MirrorView}
use Rattle.mt_events.specs.Texts.{count_text, followed_text}
use Rattle.mt_events.specs.declared.opening.Scope.{Scope}
use Rattle.mt_client.specs.declared.named.NamedTelling.{NamedTelling}
use Rattle.mt_client.specs.declared.fault.ClientFault.{ClientFault}
use Rattle.mt_client.specs.declared.fault.ClientFault.TheVariants.{Connection, Output, NoMemory}
use Rattle.mt_client.specs.Requests.{numbered_text, event_count}
use Rattle.mt_client.specs.Reading.{ComeFirst, IsCutOff, IsBroken, IsSentPart}
use Rattle.mt_client.specs.Mirroring.{IsSentPost, HasRefused, IsPosted, counted_line}
use Rattle.mt_client.specs.Finding.{watch_text, HasFound}
use Rattle.mt_client.specs.Telling.{told_in, mirrors_with, mirrors_by, is_due, are_due, posts_told, portion, follows_text, telling_text, all_posts, portions_text, HasCome, HasTold, IsUnsaid, IsStopped, IsBrokenOff, AreTold, HasToldPost, HasToldSome, HasToldPortion, HasToldSo, HasToldAll, HasToldAllOut, IsToldUpTo}
use Rattle.mt_client.proofs.OpeningLaws.{watched_whole}
use Rattle.mt_client.proofs.SeriesLaws.{due_to, are_both}
use Rattle.mt_client.proofs.CallLaws.{connection≢output, no_memory≢output, breaks_later}
use Rattle.mt_client.specs.Calls.{WritesOn, IsOut, IsOutOrBroken}
use Rattle.mt_lines.specs.declared.stream.Output.{Ghosts as OutputGhosts}
use Rattle.mt_client.proofs.RelayLaws.{part_first, part_second, printed-append, come_none, come_both, broken_cut}
use Rattle.std.proofs.lemmas.Option.{same_Some}
use Rattle.mt_lines.specs.Words.{words}
use Rattle.mt_events.specs.declared.opening.Scope.TheVariants.{All}
use Rattle.mt_client.specs.Effects.{HasToldLines}

-- what is told of posts and of others behind them, against the mirrors that the first have made
pub told_both : (named : NamedTelling) (ps qs : List PostView) (old : List MirrorView) → posts_told named old (ps ++ qs) ≡ posts_told named old ps ++ posts_told named (mirrors_by old ps) qs
told_both named [] qs old = refl
told_both named (p ∷ ps) qs old =
    ap (λ t. told_in named old p ++ t) (told_both named ps qs (mirrors_with old p))
    ∙ sym (append_assoc (told_in named old p) (posts_told named (mirrors_with old p) ps) (posts_told named (mirrors_by (mirrors_with old p) ps) qs))

abbrev pub both_told : {named : NamedTelling} {scope : Scope} {ps qs : List PostView} {s t : List ℕ} {old mid new : List MirrorView} {before middle after : Option (List Item)} {begun between done : Option (List ℕ)}
    → AreTold named scope ps s old mid before middle begun between → AreTold named scope qs t mid new middle after between done → AreTold named scope (ps ++ qs) (s ++ t) old new before after begun done
both_told {named} {scope} {ps} {qs} {s} {t} {old} {mid} {new} {before} {middle} {after} {begun} {between} {done} f h = record {
  lines = f.lines ++ h.lines;
  valid = each_append IsSentPost ps qs f.valid h.valid;
  due = are_both (due_to scope) ps qs old f.due (subst (λ ms. are_due scope ms qs ≡ true) f.make h.due);
  make = h.make ∙ ap (λ ms. mirrors_by ms qs) f.make ∙ sym (fold-append mirrors_with old ps qs);
  read = come_both f.read h.read;
  text = printed-append f.lines h.lines ∙ (λ k. f.text k ++ h.text k);
  out = subst (λ x. Appends begun done x) (sym (told_both named ps qs old))
      (Appends-trans begun between done (posts_told named old ps) (posts_told named (mirrors_by old ps) qs) f.out (subst (λ ms. Appends between done (posts_told named ms qs)) f.make h.out));
}

abbrev pub none_told : {named : NamedTelling} {scope : Scope} {old : List MirrorView} {before : Option (List Item)} {begun : Option (List ℕ)} → AreTold named scope [] [] old old before before begun begun
none_told {named} {scope} {old} {before} {begun} = record { lines = []; valid = tt; due = refl; make = refl; read = come_none before; text = refl; out = Appends-nil begun }

abbrev pub said_so : {named : NamedTelling} {scope : Scope} {ps : List PostView} {s t : List ℕ} {old new : List MirrorView} {before after : Option (List Item)} {begun done : Option (List ℕ)} → s ≡ t → AreTold named scope ps s old new before after begun done → AreTold named scope ps t old new before after begun done
said_so e f = record { lines = f.lines; valid = f.valid; due = f.due; make = f.make; read = f.read; text = f.text ∙ e; out = f.out }

-- one post
abbrev pub post_told : {named : NamedTelling} (scope : Scope) {first : List ℕ} {post : PostView} (old : List MirrorView) {new : List MirrorView} {before middle after : Option (List Item)} (begun : Option (List ℕ)) {done : Option (List ℕ)} → ComeFirst before (first ∷ []) middle → IsPosted first middle after post → IsSentPost post
    → is_due scope old post ≡ true → new ≡ mirrors_with old post → Appends begun done (told_in named old post) → HasToldPost named scope old new before after begun done
post_told {named} scope {first} {post} old {new} {before} {middle} {after} begun {done} there p valid due make out = (
  post,
  record {
    lines = first ∷ p.others;
    valid = (valid, tt);
    due = and-true (is_due scope old post) true due refl;
    make = make;
    read = come_both there p.read;
    text = p.text;
    out = subst (λ x. Appends begun done x) (sym (append-nil (told_in named old post))) out;
  },
)

-- what was printed up to a fault
pub unsaid_of : (f : ClientFault) (before : Option (List Item)) (old new : Option (List ℕ)) → IsBroken f before old new → (f ≢ Output → Keeps old new) → IsUnsaid f before old new
unsaid_of Connection before old new b kept = kept connection≢output
unsaid_of NoMemory before old new b kept = kept no_memory≢output
unsaid_of Output before old new b kept = b

pub stopped_post : {named : NamedTelling} {f : ClientFault} (scope : Scope) {first : List ℕ} {post : PostView} (old : List MirrorView) {before middle after : Option (List Item)} {begun done : Option (List ℕ)} → ComeFirst before (first ∷ []) middle → IsPosted first middle after post → IsSentPost post
    → (f ≢ Output → Keeps begun done) → (f ≡ Output → (is_due scope old post ≡ true) × IsCutOff (told_in named old post) begun done) → IsStopped named f scope old before begun done
stopped_post {named} {f} scope {first} {post} old {before} {middle} {after} {begun} {done} there p valid kept cut = go f kept cut
  where
    go : (f : ClientFault) → (f ≢ Output → Keeps begun done) → (f ≡ Output → (is_due scope old post ≡ true) × IsCutOff (told_in named old post) begun done) → IsStopped named f scope old before begun done
    go Connection same half = inl (same connection≢output)
    go NoMemory same half = inl (same no_memory≢output)
    go Output same half =
        let h = half refl in
        inr (refl, record { post = post; lines = first ∷ p.others; later = after; valid = valid; due = h.0; read = come_both there p.read; text = p.text; out = h.1 })

-- so many posts
pub none_yet : {named : NamedTelling} {scope : Scope} {old : List MirrorView} {before : Option (List Item)} {begun : Option (List ℕ)} → HasToldSome named 0 scope old old before before begun begun
none_yet = record { posts = []; many = refl; told = none_told }

pub some_more : {named : NamedTelling} {n : ℕ} {scope : Scope} {old mid new : List MirrorView} {before middle after : Option (List Item)} {begun between done : Option (List ℕ)} → HasToldSome named n scope old mid before middle begun between → HasToldPost named scope mid new middle after between done
    → HasToldSome named (n + 1) scope old new before after begun done
some_more f h =
    let p : PostView = h.0 in
    let l = length-append f.posts (p ∷ []) in
    let m = f.many in
    record {
      posts = f.posts ++ p ∷ [];
      many = omega (arith, l, m);
      told = said_so
          (ap (λ x. flat_map post_text f.posts ++ x) (sym (append-nil (post_text p))) ∙ sym (flat_map-append post_text f.posts (p ∷ [])))
          (both_told f.told h.1);
    }

-- their end
pub portion_whole : {named : NamedTelling} {count n : ℕ} {scope : Scope} {old new : List MirrorView} {before middle after : Option (List Item)} {begun done : Option (List ℕ)} → n ≡ count → HasToldSome named n scope old new before middle begun done → ComeFirst middle (counted_line count ∷ []) after
    → HasToldPortion named count scope old new before after begun done
portion_whole {named} {count} {n} {scope} {old} {new} {before} {middle} {after} all f e =
    let t = f.told in
    record {
      posts = f.posts;
      many = f.many ∙ all;
      told = record {
        lines = t.lines ++ counted_line count ∷ [];
        valid = t.valid;
        due = t.due;
        make = t.make;
        read = come_both t.read e;
        text = printed-append t.lines (counted_line count ∷ []) ∙ (λ k. t.text k ++ append-nil (count_text count) k);
        out = t.out;
      };
    }

-- at most so many posts, and no whole portion before them
abbrev pub so_few : {named : NamedTelling} {count n : ℕ} {scope : Scope} {old new : List MirrorView} {before after : Option (List Item)} {begun done : Option (List ℕ)} → n ≤ count → HasToldSome named n scope old new before after begun done → HasToldSo named count scope old new before after begun done
so_few le f = record { portions = []; rest = f.posts; whole = tt; within = let m = f.many in omega (arith, m, le); told = f.told }

abbrev pub so_none : {named : NamedTelling} {count : ℕ} {scope : Scope} {old : List MirrorView} {before : Option (List Item)} {begun : Option (List ℕ)} → HasToldSo named count scope old old before before begun begun
so_none = so_few (omega arith) none_yet

-- what is told from here on is told from the start on, behind the portions that were told
abbrev pub AreToldBefore : NamedTelling → ℕ → Scope → ℕ → List MirrorView → List MirrorView → Option (List Item) → Option (List Item) → Option (List ℕ) → Option (List ℕ) → Type 0
AreToldBefore named count scope k old mid before middle begun between =
    (new : List MirrorView) (after : Option (List Item)) (done : Option (List ℕ)) → (h : HasToldSo named count scope mid new middle after between done)
    → (s : HasToldSo named count scope old new before after begun done) × (length s.portions ≡ k + length h.portions)

portion_before : {named : NamedTelling} {count : ℕ} {scope : Scope} {old mid : List MirrorView} {before middle : Option (List Item)} {begun between : Option (List ℕ)} → HasToldPortion named count scope old mid before middle begun between → AreToldBefore named count scope 1 old mid before middle begun between
portion_before {named} {count} {scope} {old} {mid} {before} {middle} {begun} f new after done h =
    let first : List ℕ = followed_text f.posts (count_text count) in
    let posts : f.posts ++ all_posts h.portions h.rest ≡ all_posts (f.posts ∷ h.portions) h.rest = sym (append_assoc f.posts (flat_map (λ posts. posts) h.portions) h.rest) in
    let text : first ++ portions_text count h.portions h.rest ≡ portions_text count (f.posts ∷ h.portions) h.rest =
    sym (append_assoc first (flat_map (λ posts. followed_text posts (count_text count)) h.portions) (flat_map post_text h.rest)) in
    let so : HasToldSo named count scope old new before after begun done = record {
      portions = f.posts ∷ h.portions;
      rest = h.rest;
      whole = (f.many, h.whole);
      within = h.within;
      told = subst (λ x. AreTold named scope x (portions_text count (f.posts ∷ h.portions) h.rest) old new before after begun done) posts
          (said_so text
          (both_told f.told h.told));
    } in
    (so, omega arith)

pub none_before : {named : NamedTelling} {count : ℕ} {scope : Scope} {old : List MirrorView} {before : Option (List Item)} {begun : Option (List ℕ)} → AreToldBefore named count scope 0 old old before before begun begun
none_before new after end h = (h, omega arith)

pub told_before : {named : NamedTelling} {count : ℕ} (k : ℕ) {scope : Scope} {old mid new : List MirrorView} {before middle after : Option (List Item)} {begun between done : Option (List ℕ)} → AreToldBefore named count scope k old mid before middle begun between → HasToldPortion named count scope mid new middle after between done
    → AreToldBefore named count scope (k + 1) old new before after begun done
told_before k f h next later end so =
    let p = portion_before h next later end so in
    let q = f next later end p.0 in
    let m = p.1 in
    let n = q.1 in
    (q.0, omega (arith, m, n))

-- a refusal behind them, and a fault
pub all_behind : {named : NamedTelling} (count k : ℕ) (scope : Scope) (old mid : List MirrorView) (before middle after : Option (List Item)) (begun between done : Option (List ℕ)) → AreToldBefore named count scope k old mid before middle begun between
    → ((h : HasToldAllOut named count scope mid middle after between done) × (h.2.so.portions ≡ [])) → (all : HasToldAllOut named count scope old before after begun done) × (length all.2.so.portions ≡ k)
all_behind {named} count k scope old mid before middle after begun between end f h =
    let a : HasToldAll named count scope h.0.0 mid middle after between h.0.1 = h.0.2 in
    let r = f a.made a.middle h.0.1 a.so in
    let m = r.1 in
    let n = ap length h.1 in
    ((h.0.0, h.0.1, record { made = a.made; middle = a.middle; so = r.0; refused = a.refused }, h.0.3), omega (arith, m, n))

-- the line behind so many posts
abbrev some_kept : {named : NamedTelling} {n : ℕ} {scope : Scope} {old new : List MirrorView} {before middle : Option (List Item)} {begun between done : Option (List ℕ)} → HasToldSome named n scope old new before middle begun between → Keeps between done → HasToldSome named n scope old new before middle begun done
some_kept {named} {n} {scope} {old} {new} {before} {middle} {begun} {between} {done} f kept =
    let t = f.told in
    record { posts = f.posts; many = f.many; told = record { lines = t.lines; valid = t.valid; due = t.due; make = t.make; read = t.read; text = t.text; out = Appends-kept begun between done (posts_told named old f.posts) t.out kept } }

abbrev pub all_few : {named : NamedTelling} {count n : ℕ} {scope : Scope} {refusal : List ℕ} {old new : List MirrorView} {before middle after : Option (List Item)} {begun between done : Option (List ℕ)} → n ≤ count → HasToldSome named n scope old new before middle begun between → Keeps between done × HasRefused refusal middle after
    → HasToldAll named count scope refusal old before after begun done
all_few {named} {count} {n} {scope} {refusal} {old} {new} {before} {middle} le f r = record {
  made = new;
  middle = middle;
  so = so_few le (some_kept f r.0);
  refused = r.1;
}

pub up_to_some : {named : NamedTelling} {fault : ClientFault} {count n : ℕ} {scope : Scope} {old new : List MirrorView} {before middle : Option (List Item)} {begun between done : Option (List ℕ)} → n ≤ count → HasToldSome named n scope old new before middle begun between → IsStopped named fault scope new middle between done
    → IsToldUpTo named fault count scope old before begun done
up_to_some {named} {fault} {count} {n} {scope} {old} {new} {before} {middle} {begun} {between} le f s =
    record { made = new; middle = middle; between = between; so = so_few le f; stopped = s }

-- a fault up to which nothing was told
pub up_to_none : {named : NamedTelling} {fault : ClientFault} {count : ℕ} {scope : Scope} {old : List MirrorView} {before : Option (List Item)} {begun done : Option (List ℕ)} → IsUnsaid fault before begun done → IsToldUpTo named fault count scope old before begun done
up_to_none {named} {fault} {count} {scope} {old} {before} {begun} u = record { made = old; middle = before; between = begun; so = so_none; stopped = inl u }

-- of a line that was read a part was printed, not all
pub unsaid_cut : {fault : ClientFault} {line : List ℕ} {before after : Option (List Item)} {begun done : Option (List ℕ)} → fault ≡ Output → ComeFirst before (line ∷ []) after → IsCutOff (ended line) begun done → IsUnsaid fault before begun done
unsaid_cut {fault} {line} {before} {after} {begun} {done} kind there cut =
    let part : IsUnsaid Output before begun done = broken_cut Output line before after begun done there refl cut in
    subst (λ f. IsUnsaid f before begun done) (sym kind) part

-- the requests for posts
follows_again : (line : List ℕ) (k : ℕ) → flat_map ended (replicate k line) ++ ended line ≡ ended line ++ flat_map ended (replicate k line)
follows_again line zero = sym (append-nil (ended line))
follows_again line (suc k) = append_assoc (ended line) (flat_map ended (replicate k line)) (ended line) ∙ ap (λ x. ended line ++ x) (follows_again line k)

pub follows_more : (count k : ℕ) → follows_text count (k + 1) ≡ follows_text count k ++ ended (numbered_text (codes "follow") count)
follows_more count k =
    let e : k + 1 ≡ suc k = omega arith in
    ap (follows_text count) e ∙ sym (follows_again (numbered_text (codes "follow") count) k)

pub follows_sent : (count k : ℕ) (old mid new : Option (List ℕ)) → Appends old mid (follows_text count k) → Appends mid new (ended (numbered_text (codes "follow") count)) → Appends old new (follows_text count (k + 1))
follows_sent count k old mid new e f = subst (λ x. Appends old new x) (sym (follows_more count k)) (Appends-trans old mid new (follows_text count k) (ended (numbered_text (codes "follow") count)) e f)

-- and the last of them too, or calls of the writer failed
pub follows_asked : {W : Type 0} {w : OutputGhosts W} (count k n : ℕ) {old mid new : W} → n ≡ k → WritesOn w old mid → Appends (w.contents old) (w.contents mid) (follows_text count k) → IsOutOrBroken w (ended (numbered_text (codes "follow") count)) mid new
    → IsOutOrBroken w (follows_text count (n + 1)) old new
follows_asked {W} {w} count k n {old} {mid} {new} same on sent (inl out) = inl (subst (λ i. Appends (w.contents old) (w.contents new) (follows_text count (i + 1))) (sym same) (follows_sent count k (w.contents old) (w.contents mid) (w.contents new) sent out))
follows_asked count k n same on sent (inr broken) = inr (breaks_later on broken)

-- behind the request of a watcher
telling_asked : {W : Type 0} {w : OutputGhosts W} (scope : Scope) (times : ℕ) {old mid new : W} → IsOut w (ended (watch_text scope)) old mid → IsOutOrBroken w (follows_text portion times) mid new → IsOutOrBroken w (telling_text scope times) old new
telling_asked {W} {w} scope times {old} {mid} {new} sent (inl out) = inl (Appends-trans (w.contents old) (w.contents mid) (w.contents new) (ended (watch_text scope)) (follows_text portion times) sent.went out)
telling_asked scope times sent (inr broken) = inr (breaks_later sent.on broken)

pub follows_part : (count k : ℕ) (old mid new : Option (List ℕ)) → Appends old mid (follows_text count k) → IsSentPart (ended (numbered_text (codes "follow") count)) mid new → (times : ℕ) × IsSentPart (follows_text count times) old new
follows_part count k old mid new e p =
    (k + 1, subst (λ t. IsSentPart t old new) (sym (follows_more count k)) (part_second (follows_text count k) (ended (numbered_text (codes "follow") count)) old mid new e p))

-- a part of the request of a watcher, as a part of the requests of a telling
pub telling_first : (scope : Scope) (old new : Option (List ℕ)) → IsSentPart (ended (watch_text scope)) old new → (times : ℕ) × IsSentPart (telling_text scope times) old new
telling_first scope old new p = (0, part_first (ended (watch_text scope)) (follows_text portion 0) old new p)

-- a whole telling
come_whole : {named : NamedTelling} {scope : Scope} {found made : List MirrorView} {before opened after : Option (List Item)} {begun done : Option (List ℕ)} → HasFound scope before opened found → (s : HasToldSo named portion scope found made opened after begun done) → HasCome scope s.portions s.rest before after found
come_whole {named} {scope} {found} {made} {before} {opened} {after} f s =
    let w = watched_whole scope found before opened f in
    let t = s.told in
    record {
      lines = w.lines ++ t.lines;
      shown = w.shown;
      whole = s.whole;
      within = s.within;
      valid = t.valid;
      due = t.due;
      read = come_both w.read t.read;
      text = printed-append w.lines t.lines ∙ (λ k. w.text k ++ t.text k);
    }

-- what a watcher found, all that was told behind it, and the refusal at its end
pub told_whole : {W : Type 0} {w : OutputGhosts W} {named : NamedTelling} {scope : Scope} {found : List MirrorView} {before opened : Option (List Item)} (after : Option (List Item)) (begun done : Option (List ℕ)) {k l m : W} → HasFound scope before opened found → IsOut w (ended (watch_text scope)) k l
    → ((all : HasToldAllOut named portion scope found opened after begun done) × IsOutOrBroken w (follows_text portion (length all.2.so.portions + 1)) l m) → (mirrors : List MirrorView) × (portions : List (List PostView)) × (rest : List PostView) × (refusal : List ℕ) × HasTold scope portions rest refusal before after mirrors × Appends begun done (posts_told named mirrors (all_posts portions rest) ++ ended refusal)
    × IsOutOrBroken w (telling_text scope (length portions + 1)) k m
told_whole {W} {w} {named} {scope} {found} {before} {opened} after begun done f sent h =
    let a : HasToldAll named portion scope h.0.0 found opened after begun h.0.1 = h.0.2 in
    let s = a.so in
    let t = s.told in (
      found,
      s.portions,
      s.rest,
      h.0.0,
      record { middle = a.middle; came = come_whole f s; refused = a.refused },
      Appends-trans begun h.0.1 done (posts_told named found (all_posts s.portions s.rest)) (ended h.0.0) t.out h.0.3,
      telling_asked scope (length s.portions + 1) sent h.1,
    )

-- what was told behind what a watcher found, up to a fault
pub telling_stopped : {named : NamedTelling} {fault : ClientFault} {scope : Scope} {found : List MirrorView} {before opened : Option (List Item)} {begun done : Option (List ℕ)} → HasFound scope before opened found → IsToldUpTo named fault portion scope found opened begun done → IsBrokenOff named fault scope before begun done
telling_stopped {named} {fault} {scope} {found} {before} {opened} {begun} {done} f h =
    let s = h.so in
    let t = s.told in
    inr (
      found,
      s.portions,
      s.rest,
      h.middle,
      h.between,
      come_whole f s,
      t.out,
      subst (λ ms. IsStopped named fault scope ms h.middle h.between done) t.make h.stopped,
    )

-- some, and then others
pub both_lines : {named : NamedTelling} {k n : ℕ} {old mid new : List MirrorView} {before middle after : Option (List Item)} {begun between done : Option (List ℕ)}
    → HasToldLines named k old mid before middle begun between → HasToldLines named n mid new middle after between done → HasToldLines named (k + n) old new before after begun done
both_lines f h =
    let ps = f.posts in
    let qs = h.posts in
    record {
      posts = ps ++ qs;
      told = said_so (sym (flat_map-append post_text ps qs))
          (both_told f.told h.told);
      many = length-append f.told.lines h.told.lines ∙ (λ i. f.many i + h.many i);
    }

-- one post, of its first line and so many behind it
pub one_told : {named : NamedTelling} {behind : ℕ} {first : List ℕ} {post : PostView} {old new : List MirrorView} {before middle after : Option (List Item)} {begun done : Option (List ℕ)}
    → ComeFirst before (first ∷ []) middle → Some behind ≡ event_count (words first) → IsPosted first middle after post → IsSentPost post → is_due All old post ≡ true → new ≡ mirrors_with old post → Appends begun done (told_in named old post)
    → HasToldLines named (1 + behind) old new before after begun done
one_told {named} {behind} {first} {post} {old} {new} {before} {middle} {after} {begun} there counts p valid due make out =
    let same = same_Some behind (length p.others) (counts ∙ p.counted) in
    record {
      posts = post ∷ [];
      told = said_so (sym (append-nil (post_text post))) (post_told All old begun there p valid due make out).1;
      many = omega (arith, same);
    }
