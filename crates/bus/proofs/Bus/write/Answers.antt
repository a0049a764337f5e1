use Rattle.std.proofs.Common.{rules, ◌∙◌}
use Rattle.bus.proofs.Laws.{write_right}
use Rattle.bus.proofs.Bus.write.Goals as goal

pub returns : goal.returns
returns c = c.write_with.ensures ∙ write_right c.args.address c.args.command c.args.count c.args.four (search rules) (search rules) (search rules) c.lent.ensures
