use Rattle.std.proofs.Common.{[], ◌++◌, arith, unwrap_or}
use Rattle.std.proofs.KnownBytes.{Appends-trans}
use Rattle.mt_session.proofs.EndLaws.{uncut_cause, uncut_run}
use Rattle.mt_session.proofs.SharedLineLaws.{piece_more, piece_over, piece_cut, piece_uncut}
use Rattle.mt_session.proofs.shared_answer.Shared.serve_request.Goals as goal

pub returns-in-Err-clause-served : goal.returns-in-Err-clause-served
returns-in-Err-clause-served g c =
    let i = c.pieces.invariant.so_far in
    let p = c.next_piece-piece in
    piece_cut c.args.session.now c.pieces.session p.new.session c.args.request.now _ _ _ i.0 c.pieces.told p.result.text p.result.then c.in-Err.cut
    i.1 (p.ensures c.args.session.now i.0 i.1) c.in-Err.ensures.within i.2 c.in-Err.ensures.cut

pub returns-in-Over-clause-served : goal.returns-in-Over-clause-served
returns-in-Over-clause-served g c =
    let i = c.pieces.invariant.so_far in
    let p = c.next_piece-piece in
    piece_over c.args.session.now p.new.session c.args.request.now _ _ _ i.0 p.result.text p.result.then c.in-Over.end
    (p.ensures c.args.session.now i.0 i.1) c.in-Over.is i.2 c.in_default.ensures.whole

pub returns-in-Over-clause-cut : goal.returns-in-Over-clause-cut
returns-in-Over-clause-cut g c t =
    let i = c.pieces.invariant.so_far in
    let p = c.next_piece-piece in
    uncut_cause c.in-Over.end _ _ (piece_uncut c.args.session.now p.new.session c.args.request.now i.0 p.result.text p.result.then c.in-Over.end (p.ensures c.args.session.now i.0 i.1) c.in-Over.is)
    (omega (arith, c.pieces.invariant.failed t, c.in_default.ensures.counted t))

pub returns-in-Over-clause-cut_run : goal.returns-in-Over-clause-cut_run
returns-in-Over-clause-cut_run g c t none =
    let i = c.pieces.invariant.so_far in
    let p = c.next_piece-piece in
    uncut_run c.in-Over.end _ (piece_uncut c.args.session.now p.new.session c.args.request.now i.0 p.result.text p.result.then c.in-Over.end (p.ensures c.args.session.now i.0 i.1) c.in-Over.is)
    (c.in_default.ensures.served t (c.pieces.invariant.cut_run t none))

pub pieces-preserved : goal.pieces-preserved
pieces-preserved g c =
    let i = c.pieces.invariant.so_far in
    let p = c.next_piece-piece in
    record {
      failed = λ t. omega (arith, c.pieces.invariant.failed t, c.in_default.ensures.counted t);
      cut_run = λ t none. c.in_default.ensures.served t (c.pieces.invariant.cut_run t none);
      so_far = (
        i.0 ++ unwrap_or p.result.text [],
        piece_more c.args.session.now p.new.session c.args.request.now i.0 c.in-More.count p.result.text p.result.then c.in-More.is (p.ensures c.args.session.now i.0 i.1),
        Appends-trans _ _ _ i.0 (unwrap_or p.result.text []) i.2 c.in_default.ensures.whole,
      );
    }
