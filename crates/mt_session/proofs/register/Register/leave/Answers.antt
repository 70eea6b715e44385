use Rattle.std.proofs.Common.{List, arith, subst, ◌∙◌, sym, ap}
use Rattle.std.specs.Option.{option_map}
use Rattle.mt_session.specs.declared.register.Entry.{Entry}
use Rattle.mt_skel.specs.Keyed.{row_at}
use Rattle.mt_session.specs.Register.{IsRegister, RegisterView, entry_kept, entry_number, without_session}
use Rattle.mt_session.specs.Seen.{register_view}
use Rattle.mt_session.proofs.RegisterLaws.{none_found, one_found, is_left}
use Rattle.mt_session.proofs.register.Register.leave.Goals as goal

pub returns-in_default-clause-kept : goal.returns-in_default-clause-kept
returns-in_default-clause-kept g c =
    (none_found c.args.number c.args.self.now c.as_slice.result.now c.place_of.result (c.as_slice.ensures.value ∙ ap (λ r. r.entries) c.self.view_is) c.place_of.ensures.place c.in_default.is).0

pub returns-in_default-clause-left : goal.returns-in_default-clause-left
returns-in_default-clause-left g c =
    (none_found c.args.number c.args.self.now c.as_slice.result.now c.place_of.result (c.as_slice.ensures.value ∙ ap (λ r. r.entries) c.self.view_is) c.place_of.ensures.place c.in_default.is).1

-- the one that leaves, of those that the register keeps
pub invariant_of-self : goal.invariant_of-self
invariant_of-self g c =
    let f = one_found c.args.number c.in-Some.place (register_view c.self.inside) c.as_slice.result.now c.place_of.result c.remove.result c.self.invariant.register c.as_slice.ensures.value c.place_of.ensures.place c.in-Some.is c.remove.ensures.value in
    record {
      register = subst (λ (es : List (Entry g.row.T.Denot)). IsRegister record (register_view c.self.inside) { entries = es }) (sym (◌∙◌ {A = List (Entry g.row.T.Denot)} c.remove.ensures.items f.1)) (is_left c.args.number (register_view c.self.inside) c.self.invariant.register);
      room = omega (arith, c.self.invariant.room, c.remove.ensures.capacity);
    }

pub returns-clause-kept : goal.returns-clause-kept
returns-clause-kept g c =
    let f = one_found c.args.number c.in-Some.place (register_view c.self.inside) c.as_slice.result.now c.place_of.result c.remove.result c.self.invariant.register c.as_slice.ensures.value c.place_of.ensures.place c.in-Some.is c.remove.ensures.value in
    f.0 ∙ ap (λ (r : RegisterView g.row.T.Denot). option_map entry_kept (row_at entry_number c.args.number r.entries)) c.self.view_is

pub returns-clause-left : goal.returns-clause-left
returns-clause-left g c =
    let f = one_found c.args.number c.in-Some.place (register_view c.self.inside) c.as_slice.result.now c.place_of.result c.remove.result c.self.invariant.register c.as_slice.ensures.value c.place_of.ensures.place c.in-Some.is c.remove.ensures.value in
    ap (λ (es : List (Entry g.row.T.Denot)). record (register_view c.self.inside) { entries = es }) (◌∙◌ {A = List (Entry g.row.T.Denot)} c.remove.ensures.items f.1) ∙ ap (without_session c.args.number) c.self.view_is
