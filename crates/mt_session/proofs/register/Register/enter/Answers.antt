use Rattle.std.proofs.Common.{◌≡◌, List, arith, refl, subst, ◌∙◌, sym, ap, true}
use Rattle.mt_session.specs.declared.register.Entry.{Entry}
use Rattle.mt_session.specs.Register.{IsRegister, with_session, lets_in}
use Rattle.mt_session.specs.Seen.{register_view}
use Rattle.mt_session.proofs.RegisterLaws.{is_entered}
use Rattle.mt_session.proofs.register.Register.enter.Goals as goal

-- the room that was made at the start is enough, and nothing else is left but what is entered
pub invariant_of-self : goal.invariant_of-self
invariant_of-self g c =
    let free : lets_in (register_view c.self.inside) ≡ true = ap lets_in c.self.view_is ∙ sym c.lets_in.ensures ∙ c.if-not-lets_in.false in
    let items : c.push.new.self.items ≡ (with_session (register_view c.self.inside) c.args.kept).entries = rw (c.push.ensures.items, c.unwrap.ensures) refl in
    record {
      register = subst (λ (es : List (Entry g.row.T.Denot)). IsRegister record (with_session (register_view c.self.inside) c.args.kept) { entries = es }) (sym items) (is_entered (register_view c.self.inside) c.args.kept c.self.invariant.register free);
      room = omega (arith, c.self.invariant.room, c.push.ensures.capacity);
    }
