use Rattle.std.proofs.Common.{◌≡◌, List, ℕ, inl, inr, refl, ap, subst}
use Rattle.rule_schemes.specs.Reading.{Token}
use Rattle.judgments.specs.Collected.{IsAmong}
use Rattle.judgments.proofs.names.add_name.Goals as goal

pub returns-then-is_among : goal.returns-then-is_among
returns-then-is_among c =
    let there : IsAmong c.args.name.now c.args.metas.now = rw c.as_slice.ensures at (c.is_among.ensures.0 c.if-is_among.true) in
    inl (record { same = refl; no_new = λ w same. inr (subst (λ v. IsAmong v c.args.metas.now) (ap (λ (t : Token). t.1) same) there) })
