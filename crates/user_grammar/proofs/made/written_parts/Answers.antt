use Rattle.std.proofs.Common.{◌∙◌, ap, map, sym}
use Rattle.user_grammar.specs.File.{assumed, categories}
use Rattle.user_grammar.specs.Made.{plains}
use Rattle.user_grammar.specs.Names.{category_names}
use Rattle.user_grammar.proofs.MadeCategories.{names_written}
use Rattle.user_grammar.proofs.made.written_parts.Goals as goal

pub made_productions-requires-clause-named : goal.made_productions-requires-clause-named
made_productions-requires-clause-named c =
    let portions = plains c.args.portions.now in
    let sig = c.requires.0 in
    ap (map (λ name. name.now)) c.as_slice-4.ensures.value ∙ c.in_ok-names.ensures ∙ names_written (assumed portions) (categories portions) sig.cats c.requires.1.cats
    ∙ ap category_names (sym (c.in_ok-cats.ensures.are sig c.requires.1)) ∙ ap category_names (sym c.as_slice-3.ensures.value)
