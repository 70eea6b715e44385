use Rattle.std.proofs.Common.{rules, ◌++◌, refl, sym, ◌∙◌}
use Rattle.std.proofs.lemmas.Result.{IfOk-weaker}
use Rattle.mt_lines.specs.Reading.{last_line}
use Rattle.mt_events.specs.Posts.{ended}
use Rattle.mt_client.specs.Reading.{known_lines}
use Rattle.mt_client.proofs.FollowLaws.{ok_both, behind_only, behind_posted}
use Rattle.mt_client.proofs.EndingLaws.{post_needs_count, post_needs_lines, post_needs_text, post_behind}
use Rattle.mt_client.proofs.CallLaws.{appended_of, handed_on, fault_as, fault_refused, checked_end}
use Rattle.mt_client.proofs.posts.read_posted.Goals as goal

pub returns-in_default-clause-fault : goal.returns-in_default-clause-fault
returns-in_default-clause-fault g c =
    fault_refused refl (post_behind _ _ (post_needs_count (last_line c.args.lines.now) (known_lines c.args.lines.now) (rw c.line.ensures at c.in_default.ensures)))

pub returns-in_err-push_lines-clause-fault : goal.returns-in_err-push_lines-clause-fault
returns-in_err-push_lines-clause-fault g c =
    handed_on _ _ _ c.from_residual-in_err-push_lines.ensures.1
    (fault_as (λ none. post_behind _ _ (post_needs_lines c.in-Some.count (last_line c.args.lines.now) (known_lines c.args.lines.now) (rw c.line.ensures at c.in-Some.ensures) none)) (λ b. b) c.in_err-push_lines.ensures.fault)

pub returns : goal.returns
returns g c =
    let begun = c.in_ok-push_line.ensures ∙ (λ i. c.new-text.ensures.items i ++ ended (c.line-2.ensures i)) in
    record {
      posted = IfOk-weaker c.read_text.result _ _
          (λ post said.
          behind_posted c.in-Some.count (last_line c.args.lines.now) (known_lines c.args.lines.now) (known_lines c.push_lines.new.lines) c.push_line.new.text.items c.push_lines.new.text.items post
          (rw c.line.ensures at c.in-Some.ensures) begun (appended_of _ _ _ _ _ c.in_ok-push_lines.ensures.text) (sym c.deref.ensures.value ∙ said))
          c.read_text.ensures.post;
      valid = c.read_text.ensures.valid;
      only = ok_both c.read_text.result
          (λ post valid said.
          behind_only c.in-Some.count (last_line c.args.lines.now) (known_lines c.args.lines.now) (known_lines c.push_lines.new.lines) c.push_line.new.text.items c.push_lines.new.text.items post
          (rw c.line.ensures at c.in-Some.ensures) begun (appended_of _ _ _ _ _ c.in_ok-push_lines.ensures.text) valid (sym c.deref.ensures.value ∙ said))
          c.read_text.ensures.valid c.read_text.ensures.post;
      on = search rules;
      fault = checked_end _ _ c.read_text.result c.read_text.ensures.kind c.in_ok-push_lines.ensures.text.2.on.limit
          (λ is. post_behind _ _ (post_needs_text c.in-Some.count (last_line c.args.lines.now) (known_lines c.args.lines.now) (known_lines c.push_lines.new.lines) c.push_lines.new.text.items c.push_line.new.text.items
          (rw c.line.ensures at c.in-Some.ensures) begun (appended_of _ _ _ _ _ c.in_ok-push_lines.ensures.text) (λ post valid e. c.read_text.ensures.refused is post valid (c.deref.ensures.value ∙ e))));
    }
