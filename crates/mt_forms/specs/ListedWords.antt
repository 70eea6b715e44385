-- The words of the list of `-o` that are not of a filesystem alone (mount(8), the options of any filesystem).
-- A word with no source is this project's rule.
use Rattle.std.specs.Prelude.{ℕ, nat_eq, Bool, true, false, ◌||◌, cond, List, [], ◌∷◌, Option, Some, codes}
use Rattle.std.specs.List.{starts_with}
use Rattle.std.specs.Str.{bytes_eq}
use Rattle.mt_forms.specs.Lookup.{looked_up}
use Rattle.mt_forms.specs.Tables.{made_alone, all_made}
use Rattle.mt_forms.specs.declared.attribute.Attribute.TheVariants.{Ro, Nosuid, Nodev, Noexec, Nosymfollow, Nodiratime, Relatime, Noatime, Strictatime}
use Rattle.mt_forms.specs.declared.operation.PropagationKind.TheVariants.{Shared, Private, Slave, Unbindable}
use Rattle.mt_forms.specs.declared.table.Change.TheVariants.{Bind, Rbind, Move}
use Rattle.mt_forms.specs.declared.listed.Listed.{Listed}
use Rattle.mt_forms.specs.declared.listed.Listed.TheVariants.{Turns, Users, Owners, Changes, Remounts, Makes, Unseen}

-- each word, and what it means
abbrev pub listed_words : List (List ℕ × Listed)
listed_words =
    (codes "ro", Turns Ro true) ∷ (codes "rw", Turns Ro false) ∷ (codes "nosuid", Turns Nosuid true) ∷ (codes "suid", Turns Nosuid false)
    ∷ (codes "nodev", Turns Nodev true) ∷ (codes "dev", Turns Nodev false) ∷ (codes "noexec", Turns Noexec true)
    ∷ (codes "exec", Turns Noexec false) ∷ (codes "nosymfollow", Turns Nosymfollow true) ∷ (codes "symfollow", Turns Nosymfollow false)
    ∷ (codes "nodiratime", Turns Nodiratime true) ∷ (codes "diratime", Turns Nodiratime false) ∷ (codes "relatime", Turns Relatime true)
    ∷ (codes "norelatime", Turns Relatime false) ∷ (codes "noatime", Turns Noatime true) ∷ (codes "atime", Turns Noatime false)
    ∷ (codes "strictatime", Turns Strictatime true) ∷ (codes "nostrictatime", Turns Strictatime false) ∷ (codes "user", Users)
    ∷ (codes "users", Users) ∷ (codes "owner", Owners) ∷ (codes "group", Owners) ∷ (codes "bind", Changes Bind)
    ∷ (codes "rbind", Changes Rbind) ∷ (codes "move", Changes Move) ∷ (codes "remount", Remounts)
    ∷ (codes "shared", Makes (made_alone Shared)) ∷ (codes "slave", Makes (made_alone Slave))
    ∷ (codes "private", Makes (made_alone Private)) ∷ (codes "unbindable", Makes (made_alone Unbindable))
    ∷ (codes "rshared", Makes (all_made Shared)) ∷ (codes "rslave", Makes (all_made Slave)) ∷ (codes "rprivate", Makes (all_made Private))
    ∷ (codes "runbindable", Makes (all_made Unbindable)) ∷ (codes "defaults", Unseen) ∷ (codes "auto", Unseen) ∷ (codes "noauto", Unseen)
    ∷ (codes "nouser", Unseen) ∷ (codes "_netdev", Unseen) ∷ (codes "nofail", Unseen) ∷ (codes "async", Unseen) ∷ (codes "loop", Unseen)
    ∷ (codes "", Unseen) ∷ []

-- a word that programs keep for themselves (mount(8), X- and x-, comment=)
abbrev pub is_private_word : List ℕ → Bool
is_private_word word = starts_with nat_eq word (codes "x-") || starts_with nat_eq word (codes "X-") || starts_with nat_eq word (codes "comment=")

-- what a word of the list means; none where it is an option of a filesystem
unfoldable pub listed_of : List ℕ → Option Listed
listed_of word = cond {A = Option Listed} (is_private_word word) (Some Unseen) (looked_up (λ row. bytes_eq row.0 word) (λ row. row.1) listed_words)
