use Rattle.std.proofs.Common.{◌↔◌, IsTrue, ap, map, subst}
use Rattle.binding_terms.specs.Numbered.{AnyByRecursion}
use Rattle.rule_schemes.specs.Reading.{IsSpelling}
use Rattle.user_grammar.specs.File.{WrittenCategory}
use Rattle.user_grammar.proofs.fault_names.is_spelled.Goals as goal

pub returns : goal.returns
returns c =
    subst (λ ns. IsTrue c.is_category_word.result ↔ AnyByRecursion (λ name. IsSpelling name c.args.word.now) ns) (ap (map (λ (w : WrittenCategory). w.name.text)) c.requires.categories) c.is_category_word.ensures
