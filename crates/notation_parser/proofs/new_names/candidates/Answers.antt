use Rattle.std.proofs.Common.{◌≤◌, length, map, arith}
use Rattle.std.proofs.lemmas.List.{take_all}
use Rattle.term_reader.specs.View.{token}
use Rattle.notation_parser.proofs.CandidateSteps.{after_none, after_some, all_found}
use Rattle.notation_parser.proofs.new_names.candidates.Goals as goal
use Rattle.notation_parser.proofs.new_names.candidates.Goals.{in-Some+in_ok-push-in-Some, in-None}

pub loop-t-preserved : goal.loop-t-preserved
loop-t-preserved c =
    let next = rw c.as_slice.ensures at c.in_ok-decl.ensures in
    let tokens = c.args.tokens.now in
    elim c.match-branch-2.branch [
      | in-Some+in_ok-push-in-Some w ↦
          rw (w.found-is, w.in_ok-push-in-Some.ensures.ok)
          (after_some c.args.sig.now c.args.metas.now (map token tokens) token tokens c.loop-t.t-index _ c.loop-t-test.true c.loop-t.found c.loop-t.invariant w.in-Some.decl (rw w.in-Some.is at next))
      | in-None w ↦
          rw w.found-is
          (after_none c.args.sig.now c.args.metas.now (map token tokens) token tokens c.loop-t.t-index _ c.loop-t-test.true c.loop-t.found c.loop-t.invariant (rw w.in-None.is at next))
    ]

pub returns : goal.returns
returns c =
    let h : length c.args.tokens.now ≤ c.loop-t.t-index = omega arith in
    all_found c.args.sig.now c.args.metas.now (map token c.args.tokens.now) c.loop-t.found (rw take_all at c.loop-t.invariant)
