use Rattle.std.proofs.Common.{◌∙◌, map, drop, length, ap, sym}
use Rattle.std.proofs.lemmas.List.{length-map}
use Rattle.scheme_terms.specs.View.{ground_entry}
use Rattle.derivation_check.proofs.EntryLists.{map_drop}
use Rattle.derivation_check.proofs.pieces.explicit_of.Goals as goal

pub returns : goal.returns
returns c =
    ap (map ground_entry) (c.after_first_of.ensures ∙ ap (drop (length c.entries_below.result.now)) c.as_slice.ensures)
    ∙ map_drop ground_entry (length c.entries_below.result.now) c.args.value.now.entries
    ∙ ap (λ n. drop n (map ground_entry c.args.value.now.entries)) (sym (length-map c.entries_below.result.now ground_entry) ∙ ap length c.entries_below.ensures)
