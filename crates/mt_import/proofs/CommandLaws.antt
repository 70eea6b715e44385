-- Commands, and the words of one, appended one after the other.
use Rattle.std.proofs.Common.{◌≡◌, ℕ, Bool, true, List, [], ◌++◌, Option, Some, codes, sym, ap, ◌∙◌, append_assoc}
use Rattle.std.specs.BTreeMap.{BTreeMap}
use Rattle.mt_import.specs.declared.groups.Group.{Group}
use Rattle.mt_import.specs.Commands.{locked_copy_text, drop_text}
use Rattle.mt_import.specs.Groups.{lone_group, number_here}
use Rattle.mt_import.specs.Making.{attributes_text, late_options, waits, shared_text, share_text}
use Rattle.mt_import.specs.Options.{flags, times_of, with_flags, with_times, with_kind, options_text}
use Rattle.mt_import.specs.Reading.{ToldMount}
use Rattle.mt_import.specs.Script.{group_comment}
use Rattle.mt_import.specs.Spaces.{locked_if}

-- the words of options, appended part by part
pub options_joined : (options : List ℕ) (kind : Option (List ℕ)) (t0 t1 t2 t3 : List ℕ) → t0 ≡ [] → t1 ≡ with_flags options t0 flags
    → t2 ≡ with_times (times_of options) t1 → t3 ≡ with_kind kind t2 → t3 ≡ options_text options kind
unfolding options_text
options_joined options kind t0 t1 t2 t3 e0 e1 e2 e3 =
    e3 ∙ ap (λ t. with_kind kind t) (e2 ∙ ap (λ t. with_times (times_of options) t) (e1 ∙ ap (λ t. with_flags options t flags) e0))

-- what three appended is one text
pub three_pushed : (s0 s1 s2 s3 a b c : List ℕ) → s1 ≡ s0 ++ a → s2 ≡ s1 ++ b → s3 ≡ s2 ++ c → s3 ≡ s0 ++ ((a ++ b) ++ c)
three_pushed s0 s1 s2 s3 a b c e1 e2 e3 = e3 ∙ ap (λ s. s ++ c) (e2 ∙ ap (λ s. s ++ b) e1) ∙ three s0 a b c
  where
    three : (old a b c : List ℕ) → ((old ++ a) ++ b) ++ c ≡ old ++ ((a ++ b) ++ c)
    three old a b c = simp append_assoc

-- what two appended is one text
pub two_pushed : (s0 s1 s2 a b : List ℕ) → s1 ≡ s0 ++ a → s2 ≡ s1 ++ b → s2 ≡ s0 ++ (a ++ b)
two_pushed s0 s1 s2 a b e1 e2 = e2 ∙ ap (λ s. s ++ b) e1 ∙ append_assoc s0 a b

-- and so is what four appended
pub four_pushed : (s0 s1 s2 s3 s4 a b c d : List ℕ) → s1 ≡ s0 ++ a → s2 ≡ s1 ++ b → s3 ≡ s2 ++ c → s4 ≡ s3 ++ d → s4 ≡ s0 ++ (((a ++ b) ++ c) ++ d)
four_pushed s0 s1 s2 s3 s4 a b c d e1 e2 e3 e4 = two_pushed s0 s3 s4 ((a ++ b) ++ c) d (three_pushed s0 s1 s2 s3 a b c e1 e2 e3) e4

-- a copy with locks takes the place of a namespace
pub locked_pushed : (is : Bool) (original s0 s1 s2 : List ℕ) → is ≡ true → s1 ≡ s0 ++ locked_copy_text original → s2 ≡ s1 ++ drop_text original → s2 ≡ s0 ++ locked_if is original
locked_pushed is original s0 s1 s2 e e1 e2 =
    two_pushed s0 s1 s2 (locked_copy_text original) (drop_text original) e1 e2 ∙ sym (ap (λ b. s0 ++ locked_if b original) e)

-- one that is alone in its group is made shared, which a comment tells
pub shared_pushed : (groups : BTreeMap ℕ Group) (space : List ℕ) (row : ToldMount) (path options old told new : List ℕ) (group here : ℕ)
    → lone_group groups row.shared ≡ Some group → here ≡ number_here groups group → options ≡ late_options (waits groups row) row.options
    → told ≡ old ++ group_comment group here → new ≡ told ++ attributes_text space options path (Some (codes "prop=shared"))
    → new ≡ old ++ share_text groups space row path
unfolding share_text
shared_pushed groups space row path options old told new group here lone is late d e =
    two_pushed old told new (group_comment group here) (attributes_text space options path (Some (codes "prop=shared"))) d e
    ∙ ap (λ h. old ++ (group_comment group h ++ attributes_text space options path (Some (codes "prop=shared")))) is
    ∙ ap (λ o. old ++ (group_comment group (number_here groups group) ++ attributes_text space o path (Some (codes "prop=shared")))) late
    ∙ ap (λ g. old ++ shared_text g groups space row path) (sym lone)
