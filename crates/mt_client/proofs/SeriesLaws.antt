-- Items that come one after another up to what ends them, and what may still come where some of them were taken.
use Rattle.std.proofs.Common.{◌≡◌, ◌≢◌, ℕ, ◌+◌, ◌-◌, ◌<◌, ◌≤◌, Bool, true, ◌&&◌, List, [], ◌∷◌, ◌++◌, length, refl, sym, ap, subst, ◌∙◌, arith, append_assoc, append-nil, length-append, Option, Some, inl, inr}
use Rattle.std.specs.List.{flat_map, fold, AllByRecursion}
use Rattle.mt_skel.proofs.MiddleLaws.{and-true, and_first, and_second}
use Rattle.mt_lines.specs.Lines.{Item}
use Rattle.mt_events.specs.Posts.{PostView, post_lines}
use Rattle.mt_events.specs.Mirrors.{MirrorView, mirrored}
use Rattle.mt_events.specs.declared.opening.Scope.{Scope}
use Rattle.mt_client.specs.Reading.{texts, NoneFirst}
use Rattle.mt_client.specs.Mirroring.{IsSentPost, may_come, may_all_come, IsRefusal, counted_line}
use Rattle.mt_client.specs.Awaited.{IsOneRefusal, IsRefusedOr, IsSuchPost, IsOnlyApplied, IsLast, IsEnd}
use Rattle.mt_client.specs.Telling.{mirrors_with, is_due, are_due}
use Rattle.mt_client.proofs.RelayLaws.{texts_split}

-- items with their lines: which one is due to a state, which state it makes, and which are due one after another; what ends so many of them, which made a state
pub record Series : Type 1 where
  pub X : Type 0
  pub S : Type 0
  pub lines_of : X → List (List ℕ)
  pub step : S → X → S
  pub IsDue : S → X → Type 0
  pub AreDue : S → List X → Type 0
  pub first : (s : S) (x : X) (xs : List X) → AreDue s (x ∷ xs) → IsDue s x × AreDue (step s x) xs
  pub Ends : ℕ → S → List (List ℕ) → Type 0

-- the lines of items that are due, and of what ends them
pub record IsSeries (k : Series) (old : k.S) (lines : List (List ℕ)) : Type 0 where
  pub items : List k.X
  pub last : List (List ℕ)
  pub due : k.AreDue old items
  pub ends : k.Ends (length items) (fold k.step old items) last
  pub all : lines ≡ flat_map k.lines_of items ++ last

-- so many items were taken and made this state, and the rest of them comes first, wherever a series did at the start
abbrev pub Came : (k : Series) → ℕ → k.S → k.S → Option (List Item) → Option (List Item) → Type 0
Came k taken old now before middle =
    (lines : List (List ℕ)) (later : List Item) → (d : IsSeries k old lines) → before ≡ Some (texts lines ++ later)
    → (rest : List k.X) × k.AreDue now rest × (taken + length rest ≡ length d.items) × (fold k.step now rest ≡ fold k.step old d.items) × (middle ≡ Some (texts (flat_map k.lines_of rest ++ d.last) ++ later))

-- none was taken yet
pub came_at_first : (k : Series) (old : k.S) (before : Option (List Item)) → Came k 0 old old before before
came_at_first k old before lines later d e = (d.items, d.due, omega arith, refl, e ∙ ap (λ ls. Some (texts ls ++ later)) d.all)

-- behind them comes what ends them, or one more
pub came_or : {P : Type 0} (k : Series) (taken : ℕ) (old now : k.S) (before middle : Option (List Item)) → Came k taken old now before middle → (lines : List (List ℕ)) (later : List Item) → (d : IsSeries k old lines) → before ≡ Some (texts lines ++ later)
    → (k.AreDue now [] → taken ≡ length d.items → now ≡ fold k.step old d.items → middle ≡ Some (texts d.last ++ later) → P)
    → ((x : k.X) (xs : List k.X) → k.IsDue now x → k.AreDue (k.step now x) xs → taken + 1 + length xs ≡ length d.items → fold k.step (k.step now x) xs ≡ fold k.step old d.items
    → middle ≡ Some (texts (k.lines_of x) ++ (texts (flat_map k.lines_of xs ++ d.last) ++ later)) → P) → P
came_or {P} k taken old now before middle came lines later d e ended more = let c = came lines later d e in go c.0 c.1 c.2 c.3 c.4
  where
    go : (rest : List k.X) → k.AreDue now rest → taken + length rest ≡ length d.items → fold k.step now rest ≡ fold k.step old d.items → middle ≡ Some (texts (flat_map k.lines_of rest ++ d.last) ++ later) → P
    go [] due many make there = ended due (omega (arith, many)) make there
    go (x ∷ xs) due many make there =
        let f = k.first now x xs due in
        more x xs f.0 f.1 (omega (arith, many)) make
        (there ∙ ap Some (ap (λ ls. texts ls ++ later) (append_assoc (k.lines_of x) (flat_map k.lines_of xs) d.last) ∙ texts_split (k.lines_of x) (flat_map k.lines_of xs ++ d.last) later))

-- what ends them, as it ends those that were taken
ends_there : (k : Series) (taken : ℕ) (old now : k.S) (lines : List (List ℕ)) (d : IsSeries k old lines) → taken ≡ length d.items → now ≡ fold k.step old d.items → k.Ends taken now d.last
ends_there k taken old now lines d many make = subst (λ s. k.Ends taken s d.last) (sym make) (subst (λ n. k.Ends n (fold k.step old d.items) d.last) (sym many) d.ends)

-- one more was taken, where what ends them does not come first
pub came_more : (k : Series) (taken : ℕ) (old now new : k.S) (before middle after : Option (List Item)) → Came k taken old now before middle → NoneFirst (λ ls. k.AreDue now [] × k.Ends taken now ls) middle
    → ((x : k.X) (rest : List Item) → k.IsDue now x → middle ≡ Some (texts (k.lines_of x) ++ rest) → (new ≡ k.step now x) × (after ≡ Some rest)) → Came k (taken + 1) old new before after
came_more k taken old now new before middle after came none only lines later d e =
    came_or k taken old now before middle came lines later d e (λ due many make there. absurd (none d.last later (due, ends_there k taken old now lines d many make) there))
    (λ x xs is due many make there.
    let o = only x (texts (flat_map k.lines_of xs ++ d.last) ++ later) is there in
    (xs, subst (λ s. k.AreDue s xs) (sym o.0) due, many, ap (λ s. fold k.step s xs) o.0 ∙ make, o.1))

-- no series came first, where neither what ends them does behind those that were taken, nor one more
pub came_cut : {kind : List (List ℕ) → Type 0} (k : Series) (taken : ℕ) (old now : k.S) (before middle : Option (List Item)) → ((lines : List (List ℕ)) → kind lines → IsSeries k old lines) → Came k taken old now before middle → NoneFirst (λ ls. k.AreDue now [] × k.Ends taken now ls) middle
    → ((x : k.X) (rest : List Item) (n : ℕ) (made : k.S) (last : List (List ℕ)) → k.IsDue now x → taken < n → k.Ends n made last → middle ≢ Some (texts (k.lines_of x) ++ rest)) → NoneFirst kind before
came_cut k taken old now before middle is came none never lines later h e =
    let d = is lines h in
    came_or k taken old now before middle came lines later d e (λ due many make there. none d.last later (due, ends_there k taken old now lines d many make) there)
    (λ x xs due behind many make there. never x (texts (flat_map k.lines_of xs ++ d.last) ++ later) (length d.items) (fold k.step old d.items) d.last due (omega (arith, many)) d.ends there)

-- the same items where so many lines are left for them
abbrev pub in_lines : Series → Series
in_lines k = record {
  X = k.X;
  S = ℕ × k.S;
  lines_of = k.lines_of;
  step = λ s x. (s.0 - length (k.lines_of x), k.step s.1 x);
  IsDue = λ s x. k.IsDue s.1 x × (length (k.lines_of x) ≤ s.0);
  AreDue = λ s xs. k.AreDue s.1 xs × (length (flat_map k.lines_of xs) ≡ s.0);
  first = λ s x xs h.
      let f = k.first s.1 x xs h.0 in
      let l = length-append (k.lines_of x) (flat_map k.lines_of xs) in
      let m = h.1 in
      ((f.0, omega (arith, l, m)), (f.1, omega (arith, l, m)));
  Ends = λ n s ls. ls ≡ [];
}

-- items whose lines are so many
pub are_in_lines : (k : Series) (count : ℕ) (old : k.S) (items : List k.X) (lines : List (List ℕ)) → k.AreDue old items → length lines ≡ count → lines ≡ flat_map k.lines_of items → IsSeries (in_lines k) (count, old) lines
are_in_lines k count old items lines due many all = record { items = items; last = []; due = (due, sym (ap length all) ∙ many); ends = refl; all = all ∙ sym (append-nil (flat_map k.lines_of items)) }

-- some items were taken, and so many lines are left
abbrev pub CameInLines : (k : Series) → ℕ → ℕ → k.S → k.S → Option (List Item) → Option (List Item) → Type 0
CameInLines k count left old now before middle = (taken : ℕ) × Came (in_lines k) taken (count, old) (left, now) before middle

-- none was taken yet, one more was, and none came where none comes within the lines that are left
pub lines_at_first : (k : Series) (count : ℕ) (old : k.S) (before : Option (List Item)) → CameInLines k count count old old before before
lines_at_first k count old before = (0, came_at_first (in_lines k) (count, old) before)

pub lines_more : (k : Series) (count left size less : ℕ) (old now new : k.S) (before middle after : Option (List Item)) → left ≡ size + less → 0 < left → CameInLines k count left old now before middle
    → ((x : k.X) (rest : List Item) → k.IsDue now x → middle ≡ Some (texts (k.lines_of x) ++ rest) → (length (k.lines_of x) ≡ size) × (new ≡ k.step now x) × (after ≡ Some rest)) → CameInLines k count less old new before after
lines_more k count left size less old now new before middle after sum some came only = (
  came.0 + 1,
  came_more (in_lines k) came.0 (count, old) (left, now) (less, new) before middle after came.1 (λ ls later h e. let n = h.0.1 in omega (arith, n, some))
      (λ x rest is there.
      let o = only x rest is.0 there in
      let n : less ≡ left - length (k.lines_of x) = let m = o.0 in omega (arith, m, sum) in
      ((λ i. (n i, o.1 i)), o.2)),
)

pub lines_cut : {kind : List (List ℕ) → Type 0} (k : Series) (count left : ℕ) (old now : k.S) (before middle : Option (List Item)) → ((lines : List (List ℕ)) → kind lines → IsSeries (in_lines k) (count, old) lines) → 0 < left → CameInLines k count left old now before middle
    → ((x : k.X) (rest : List Item) → k.IsDue now x → length (k.lines_of x) ≤ left → middle ≢ Some (texts (k.lines_of x) ++ rest)) → NoneFirst kind before
lines_cut k count left old now before middle is some came never =
    came_cut (in_lines k) came.0 (count, old) (left, now) before middle is came.1 (λ ls later h e. let n = h.0.1 in omega (arith, n, some)) (λ x rest n made last is lt ends. never x rest is.0 is.1)

-- groups of lines, each of this kind
abbrev pub groups : (List (List ℕ) → Type 0) → (ℕ → List (List ℕ) → Type 0) → Series
groups kind ends = record {
  X = List (List ℕ);
  S = Unit {0};
  lines_of = λ group. group;
  step = λ s group. s;
  IsDue = λ s group. kind group;
  AreDue = λ s groups. AllByRecursion kind groups;
  first = λ s group groups h. h;
  Ends = λ n s ls. ends n ls;
}

-- posts: which is due to a state, which state it makes, and which are due one after another
pub record Posts : Type 1 where
  pub S : Type 0
  pub apply : S → PostView → S
  pub is : S → PostView → Bool
  pub are : S → List PostView → Bool
  pub none : (s : S) → are s [] ≡ true
  pub both : (s : S) (p : PostView) (ps : List PostView) → are s (p ∷ ps) ≡ (is s p && are (apply s p) ps)

-- the posts that follow a mirror, and those that are due to several
abbrev pub following : Posts
following = record { S = MirrorView; apply = mirrored; is = may_come; are = may_all_come; none = λ m. refl; both = λ m p ps. refl }

abbrev pub due_to : Scope → Posts
due_to scope = record { S = List MirrorView; apply = mirrors_with; is = is_due scope; are = are_due scope; none = λ ms. refl; both = λ ms p ps. refl }

-- posts, and others behind them
pub are_both : (k : Posts) (ps qs : List PostView) (s : k.S) → k.are s ps ≡ true → k.are (fold k.apply s ps) qs ≡ true → k.are s (ps ++ qs) ≡ true
are_both k [] qs s due more = more
are_both k (p ∷ ps) qs s due more =
    let b = sym (k.both s p ps) ∙ due in
    k.both s p (ps ++ qs) ∙ and-true (k.is s p) (k.are (k.apply s p) (ps ++ qs)) (and_first (k.is s p) (k.are (k.apply s p) ps) b) (are_both k ps qs (k.apply s p) (and_second (k.is s p) (k.are (k.apply s p) ps) b) more)

-- and what is true of each of two runs of posts in a row
pub are_apart : (k : Posts) (ps qs : List PostView) (s : k.S) → k.are s (ps ++ qs) ≡ true → (k.are s ps ≡ true) × (k.are (fold k.apply s ps) qs ≡ true)
are_apart k [] qs s due = (k.none s, due)
are_apart k (p ∷ ps) qs s due =
    let b = sym (k.both s p (ps ++ qs)) ∙ due in
    let r = are_apart k ps qs (k.apply s p) (and_second (k.is s p) (k.are (k.apply s p) (ps ++ qs)) b) in
    (k.both s p ps ∙ and-true (k.is s p) (k.are (k.apply s p) ps) (and_first (k.is s p) (k.are (k.apply s p) (ps ++ qs)) b) r.0, r.1)

-- posts with what ends so many of them
abbrev pub post_series : Posts → (ℕ → List (List ℕ) → Type 0) → Series
post_series k ends = record {
  X = PostView;
  S = k.S;
  lines_of = post_lines;
  step = k.apply;
  IsDue = λ s p. IsSentPost p × (k.is s p ≡ true);
  AreDue = λ s ps. AllByRecursion IsSentPost ps × (k.are s ps ≡ true);
  first = λ s p ps h. let b = sym (k.both s p ps) ∙ h.1 in ((h.0.0, and_first (k.is s p) (k.are (k.apply s p) ps) b), (h.0.1, and_second (k.is s p) (k.are (k.apply s p) ps) b));
  Ends = λ n s ls. ends n ls;
}

-- posts up to the end of so many, or a refusal
abbrev pub up_to : Posts → List ℕ → ℕ → Series
up_to k end count = post_series k (λ n ls. (last : List ℕ) × (ls ≡ last ∷ []) × IsLast end count n last)

-- the line behind fewer posts refuses, and none stands behind more of them
refuses_early : (end : List ℕ) (count taken : ℕ) (last : List ℕ) → IsLast end count taken last → taken < count → IsRefusal last
refuses_early end count taken last (inl s) lt = let n = s.0 in absurd (omega (arith, n, lt))
refuses_early end count taken last (inr s) lt = s.1

pub last_within : (end : List ℕ) (count taken : ℕ) (last : List ℕ) → IsLast end count taken last → taken ≤ count
last_within end count taken last (inl s) = let n = s.0 in omega (arith, n)
last_within end count taken last (inr s) = s.0

-- the line behind them is their end, or refuses
last_is : (count taken : ℕ) (last : List ℕ) (lines : List (List ℕ)) → IsLast (counted_line count) count taken last → lines ≡ last ∷ [] → IsRefusedOr (IsEnd count) lines
last_is count taken last lines (inl s) all = inr (all ∙ ap (λ l. l ∷ []) s.1)
last_is count taken last lines (inr s) all = inl (last, s.1, all)

-- one more post was applied, where no refusal comes first
pub posts_more : (k : Posts) (end : List ℕ) (count taken : ℕ) (old now new : k.S) (before middle after : Option (List Item)) → taken < count → Came (up_to k end count) taken old now before middle → NoneFirst IsOneRefusal middle → IsOnlyApplied k.apply now new middle after
    → Came (up_to k end count) (taken + 1) old new before after
posts_more k end count taken old now new before middle after lt came none only =
    came_more (up_to k end count) taken old now new before middle after came (λ ls later h. none ls later (h.1.0, refuses_early end count taken h.1.0 h.1.2 lt, h.1.1)) (λ p rest is. only p rest is.0)

-- no such posts came first where neither a next one comes nor a refusal, and where neither their end does nor a refusal
pub posts_cut : {kind : List (List ℕ) → Type 0} (k : Posts) (end : List ℕ) (count taken : ℕ) (old now : k.S) (before middle : Option (List Item)) → ((lines : List (List ℕ)) → kind lines → IsSeries (up_to k end count) old lines) → taken < count → Came (up_to k end count) taken old now before middle
    → NoneFirst (IsRefusedOr (IsSuchPost (k.is now))) middle → NoneFirst kind before
posts_cut k end count taken old now before middle is lt came none =
    came_cut (up_to k end count) taken old now before middle is came (λ ls later h. none ls later (inl (h.1.0, refuses_early end count taken h.1.0 h.1.2 lt, h.1.1)))
    (λ p rest n made last due more ends. none (post_lines p) rest (inr (record { post = p; valid = due.0; such = due.1; all = refl })))

pub posts_to_end : {kind : List (List ℕ) → Type 0} (k : Posts) (count taken : ℕ) (old now : k.S) (before middle : Option (List Item)) → ((lines : List (List ℕ)) → kind lines → IsSeries (up_to k (counted_line count) count) old lines) → count ≤ taken
    → Came (up_to k (counted_line count) count) taken old now before middle → NoneFirst (IsRefusedOr (IsEnd count)) middle → NoneFirst kind before
posts_to_end k count taken old now before middle is all came none =
    came_cut (up_to k (counted_line count) count) taken old now before middle is came (λ ls later h. none ls later (last_is count taken h.1.0 ls h.1.2 h.1.1))
    (λ p rest n made last due more ends e. let w = last_within (counted_line count) count n ends.0 ends.2 in omega (arith, w, more, all))
