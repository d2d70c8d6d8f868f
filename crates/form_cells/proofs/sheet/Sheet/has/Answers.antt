use Rattle.std.proofs.Common.{get_or}
use Rattle.rule_schemes.specs.Reading.{punctuation}
use Rattle.form_cells.specs.Cells.{tokens_of}
use Rattle.form_cells.specs.View.{token}
use Rattle.form_cells.proofs.Tokens.{no_token}
use Rattle.form_cells.proofs.sheet.Sheet.has.Goals as goal
use Rattle.binding_terms.proofs.Lists.{get_mapped_or, get_test}

pub returns : goal.returns
returns c =
    get_test (tokens_of c.args.self.now) c.args.place (token (get_or c.args.self.now.tokens.now c.args.place no_token)) (punctuation c.args.code) c.is_punctuation.result
    (get_mapped_or token c.args.self.now.tokens.now c.args.place no_token c.requires) c.is_punctuation.ensures
