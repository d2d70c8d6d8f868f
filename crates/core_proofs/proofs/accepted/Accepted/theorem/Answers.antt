use Rattle.std.proofs.Common.{◌≡◌, length, Some, slice_get, sym, subst, ◌∙◌, true≢false, arith}
use Rattle.std.specs.Prelude.{vec_len}
use Rattle.std.specs.List.{AllByRecursion}
use Rattle.std.proofs.lemmas.Option.{slice_get_read}
use Rattle.core_proofs.specs.Kept.{Kept, kept_statements}
use Rattle.core_proofs.specs.Provable.{IsFirstNamed}
use Rattle.core_proofs.proofs.FirstNamed.{first_named, none_more, none_named}
use Rattle.core_proofs.proofs.accepted.Accepted.theorem.Goals as goal

pub returns-then-is_named-clause-some : goal.returns-then-is_named-clause-some
returns-then-is_named-clause-some c =
    let count : c.len-i-end.result ≡ length c.self.inside.statements.items =
    c.len-i-end.ensures ∙ (let e : vec_len c.self.inside.statements ≡ length c.self.inside.statements.items = omega (arith, c.self.inside.statements.ok.0) in e) in
    let here : slice_get c.self.inside.statements.items c.loop-i.i ≡ Some c.index.result.now =
    slice_get_read c.self.inside.statements.items c.len-i-end.result c.loop-i.i c.index.result.now count c.loop-i-test.true c.index.ensures in
    subst (λ (k : Kept). IsFirstNamed (kept_statements k) c.args.name.now c.loop-i.i) c.self.view_is
    (first_named c.self.inside.statements.items c.args.name.now c.loop-i.i c.index.result.now here (c.is_named.ensures.0 c.if-is_named.true) c.loop-i.invariant)

pub loop-i-preserved : goal.loop-i-preserved
loop-i-preserved c =
    let count : c.len-i-end.result ≡ length c.self.inside.statements.items =
    c.len-i-end.ensures ∙ (let e : vec_len c.self.inside.statements ≡ length c.self.inside.statements.items = omega (arith, c.self.inside.statements.ok.0) in e) in
    let here : slice_get c.self.inside.statements.items c.loop-i.i ≡ Some c.index.result.now =
    slice_get_read c.self.inside.statements.items c.len-i-end.result c.loop-i.i c.index.result.now count c.loop-i-test.true c.index.ensures in
    none_more c.self.inside.statements.items c.args.name.now c.loop-i.i c.index.result.now here
    (λ e. true≢false (sym (c.is_named.ensures.1 e) ∙ c.if-is_named.false)) c.loop-i.invariant

pub returns-clause-none : goal.returns-clause-none
returns-clause-none c =
    let count : length c.self.inside.statements.items ≡ c.loop-i.i =
    (let e : length c.self.inside.statements.items ≡ c.loop-i.i =
    omega (arith, c.len-i-end.ensures, c.self.inside.statements.ok.0, c.loop-i-test.false, c.loop-i.auto.i-end) in e) in
    subst (λ (k : Kept). AllByRecursion (λ st. st.name ≡ c.args.name.now → ⊥) (kept_statements k)) c.self.view_is
    (none_named c.self.inside.statements.items c.args.name.now c.loop-i.i count c.loop-i.invariant)
