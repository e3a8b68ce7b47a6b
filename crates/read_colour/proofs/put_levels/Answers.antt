-- `put_levels` meets its contract: 64 levels are raised, 256 are copied.
use Rattle.read_colour.proofs.Laws.{level_64, level_256, levels_64}
use borrow.Author.Rules.{rules}
use Rattle.read_colour.proofs.put_levels.Goals as goal

pub put_raised-requires : goal.put_raised-requires
put_raised-requires c = record {
  src_len = search rules;
  src_value = cc (levels_64 c.args.src.now);
}

pub returns-in-Of64 : goal.returns-in-Of64
returns-in-Of64 c = cc (level_64 c.args.src.now)

pub returns-in-Of256 : goal.returns-in-Of256
returns-in-Of256 c = cc (level_256 c.args.src.now)
