use Rattle.std.proofs.Common.{set, ap, subst}
use Rattle.mt_events.specs.Posts.{PostView}
use Rattle.mt_desk.specs.Rows.{SendsRow}
use Rattle.mt_desk.specs.declared.places.Slot.TheVariants.{Used}
use Rattle.mt_desk.proofs.SendingLaws.{due_there, may_be_sent}
use Rattle.mt_desk.proofs.places.send_at.Goals as goal

pub send-requires : goal.send-requires
send-requires g c =
    let parts = c.into_parts-place in
    may_be_sent _ _ _ _ c.requires parts.ensures.post (due_there _ _ _ _ _ c.requires parts.ensures.place c.index_mut.ensures.value c.in-Used.is)

pub returns : goal.returns
returns g c =
    let parts = c.into_parts-place in
    record {
      row = c.in-Used.row;
      there = due_there _ _ _ _ _ c.requires parts.ensures.place c.index_mut.ensures.value c.in-Used.is;
      now = c.send.new.self;
      sends = subst (λ (p : PostView). SendsRow c.in-Used.row p c.send.new.self) parts.ensures.post c.send.ensures;
      slots_are = ap (λ k. set c.args.slots.now.items k (Used c.send.new.self)) parts.ensures.place;
    }
