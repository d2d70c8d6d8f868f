-- What contracts see of the scope of a form. Held against docs/notation.md on readings.
use Rattle.scheme_terms.specs.View.{names}
use Rattle.rule_schemes.specs.Reading.{Fresh, not_fresh, fresh_names, fresh_head, ReadingScope}
use Rattle.rule_schemes.specs.declared.reading.Fresh as of_fresh
use Rattle.rule_schemes.specs.declared.reading.Fresh.TheVariants as freshness
use Rattle.rule_schemes.specs.declared.reading.ReadScope.{ReadScope}
use Rattle.form_cells.specs.View.{scope_words}

abbrev pub freshness_of : of_fresh.Fresh → Fresh
freshness_of freshness.No = not_fresh
freshness_of freshness.Names = fresh_names
freshness_of freshness.Head = fresh_head

abbrev pub reading_scope : ReadScope → ReadingScope
reading_scope s =
    record {
      names = names s.scope;
      vars = scope_words s.vars;
      fresh = freshness_of s.fresh;
    }
