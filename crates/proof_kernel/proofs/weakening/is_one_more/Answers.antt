use Rattle.std.proofs.Common.{◌≡◌, suc, length, map, take, sym, ◌∙◌, ap, arith}
use Rattle.std.proofs.lemmas.List.{length-map}
use Rattle.binding_terms.proofs.Lists.{take_map}
use Rattle.scheme_terms.specs.View.{scheme_entry}
use Rattle.proof_kernel.proofs.Comparing.{one_more}
use Rattle.proof_kernel.proofs.weakening.is_one_more.Goals as goal

pub returns : goal.returns
returns c =
    let own = length-map c.args.from.now scheme_entry in
    let counted : length (map scheme_entry c.args.to.now) ≡ suc (length (map scheme_entry c.args.from.now)) =
    omega (arith, own, length-map c.args.to.now scheme_entry, c.if-to-eq0.false, c.if-to-from.false) in
    let more = one_more (map scheme_entry c.args.to.now) (map scheme_entry c.args.from.now) counted in
    let front : take (length (map scheme_entry c.args.from.now)) (map scheme_entry c.args.to.now) ≡ map scheme_entry (take (length c.args.from.now) c.args.to.now) =
    ap (λ n. take n (map scheme_entry c.args.to.now)) own ∙ sym (take_map scheme_entry (length c.args.from.now) c.args.to.now) in
    (λ h. more.0 (front ∙ c.same_entries.ensures.0 h), λ h. c.same_entries.ensures.1 (sym front ∙ more.1 h))
