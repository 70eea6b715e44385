-- How a register keeps what contracts see. No public clause cites this module.
use Rattle.std.specs.Prelude.{◌≤◌, vec_capacity}
use Rattle.mt_session.specs.Register.{RegisterView, IsRegister}
use Rattle.mt_session.specs.declared.register.Register.TheInside.{Inside}

module _ {T : Type 0} where
  abbrev pub register_view : Inside T → RegisterView T
  register_view r = record { entries = r.entries.items; most = r.most; last = r.last; parting = r.parting; stopping = r.stopping }

  -- there is room for all that may have a session
  pub record IsKept (r : Inside T) : Type 0 where
    pub register : IsRegister (register_view r)
    pub room : r.most ≤ vec_capacity r.entries
