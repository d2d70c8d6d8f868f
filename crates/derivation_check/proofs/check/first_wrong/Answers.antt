use Rattle.std.proofs.Common.{◌∙◌, ◌≤◌, map, ap, refl, sym, subst, true≢false}
use Rattle.rule_schemes.specs.View.{theory}
use Rattle.derivation_check.specs.Walk.{stop, path_of}
use Rattle.derivation_check.specs.Nodes.{IsFirstWrong}
use Rattle.derivation_check.proofs.Walking.{frames_finished, frames_deeper, frames_wrong, weights_fall, weights_deeper}
use Rattle.derivation_check.proofs.check.first_wrong.Goals as goal

pub returns-then-not-branch-2 : goal.returns-then-not-branch-2
returns-then-not-branch-2 c =
    let th = theory c.args.sys.now in
    subst (IsFirstWrong th c.args.tree.now) (sym (c.in_ok-path_of.ensures ∙ ap (λ fs. path_of (map stop fs)) c.as_slice.ensures.value))
    (frames_wrong th c.args.tree.now c.loop-frame.frames.items c.pop.new.self.items _ c.in-Some.frame _ c.premise-below.result.now c.in-Some.ensures.items c.in_ok-push-2.ensures.items refl refl
    c.premise-below.ensures (λ right. true≢false (sym (c.in_ok-is_right_node-2.ensures.1 right) ∙ c.if-not-branch-2.true)) c.loop-frame.invariant)

pub loop-frame-smaller-in_ok-push-3 : goal.loop-frame-smaller-in_ok-push-3
loop-frame-smaller-in_ok-push-3 c =
    weights_deeper c.loop-frame.frames.items c.pop.new.self.items _ _ c.in-Some.frame _ _ c.in-Some.ensures.items c.in_ok-push-2.ensures.items c.in_ok-push-3.ensures.items refl refl refl c.premise-below.ensures

pub loop-frame-preserved-in_ok-push-3 : goal.loop-frame-preserved-in_ok-push-3
loop-frame-preserved-in_ok-push-3 c =
    let th = theory c.args.sys.now in
    frames_deeper th c.args.tree.now c.loop-frame.frames.items c.pop.new.self.items _ _ c.in-Some.frame _ _ c.in-Some.ensures.items c.in_ok-push-2.ensures.items c.in_ok-push-3.ensures.items refl refl refl
    c.premise-below.ensures (c.in_ok-is_right_node-2.ensures.0 c.if-not-branch-2.false) c.loop-frame.invariant

pub loop-frame-smaller : goal.loop-frame-smaller
loop-frame-smaller c = weights_fall c.loop-frame.frames.items c.pop.new.self.items c.in-Some.frame c.in-Some.ensures.items

pub loop-frame-preserved : goal.loop-frame-preserved
loop-frame-preserved c =
    frames_finished (theory c.args.sys.now) c.args.tree.now c.loop-frame.frames.items c.pop.new.self.items c.in-Some.frame c.in-Some.ensures.items
    (subst (λ n. n ≤ c.in-Some.frame.gone) c.premises.ensures c.if-frame-premises.false) c.loop-frame.invariant
