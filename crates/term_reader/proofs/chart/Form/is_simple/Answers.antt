use Rattle.term_reader.proofs.chart.Form.is_simple.Goals as goal

pub returns : goal.returns
returns c e = record {
  no_group = c.is_group.ensures c.if-is_group.false;
  no_name = c.is_named.ensures c.if-is_named.false;
  no_variable = c.is_alone.ensures e;
}
