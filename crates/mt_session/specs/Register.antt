-- The sessions of a server: who has one, and who is let in.
-- A word with no source is this project's rule.
use Rattle.std.specs.Prelude.{ℕ, ◌+◌, ◌-◌, ◌^◌, ◌≤◌, Bool, false, ◌&&◌, nat_eq, nat_le, nat_lt, List, [], ◌∷◌, ◌++◌, length, IsTrue}
use Rattle.std.specs.List.{list_all}
use Rattle.mt_skel.specs.Keyed.{rises, without}
use Rattle.mt_session.specs.declared.register.Entry.{Entry}

-- those that have a session, in the order in which they came; the most that may have one, and that may be turned away
-- at once; the number of the latest session; how many are turned away; whether the server stops
pub record RegisterView (T : Type 0) : Type 0 where
  pub entries : List (Entry T)
  pub most : ℕ
  pub last : ℕ
  pub parting : ℕ
  pub stopping : Bool

-- the greatest number that a session may have
abbrev pub greatest_number : ℕ
greatest_number = 2 ^ 64 - 1

module _ {T : Type 0} where
  abbrev pub entry_number : Entry T → ℕ
  entry_number e = e.number

  abbrev pub entry_kept : Entry T → T
  entry_kept e = e.kept

  -- nobody has a session yet
  abbrev pub no_sessions : ℕ → RegisterView T
  no_sessions most = record { entries = []; most = most; last = 0; parting = 0; stopping = false }

  -- one more may have a session: fewer have one than may, and a number is left
  abbrev pub lets_in : RegisterView T → Bool
  lets_in r = nat_lt (length r.entries) r.most && nat_lt r.last greatest_number

  -- one more has a session, with the next number
  abbrev pub with_session : RegisterView T → T → RegisterView T
  with_session r kept = record r { entries = r.entries ++ record { number = r.last + 1; kept = kept } ∷ []; last = r.last + 1 }

  -- the session of a number is over
  abbrev pub without_session : ℕ → RegisterView T → RegisterView T
  without_session number r = record r { entries = without (λ (e : Entry T). nat_eq e.number number) r.entries }

  -- the numbers rise in the order in which the sessions came, none is above the latest, and no more have a session than may
  pub record IsRegister (r : RegisterView T) : Type 0 where
    pub rising : IsTrue (rises entry_number r.entries)
    pub numbered : IsTrue (list_all (λ (e : Entry T). nat_le e.number r.last) r.entries)
    pub within : length r.entries ≤ r.most
    pub parting : r.parting ≤ r.most
