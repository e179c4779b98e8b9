use Rattle.miller_line.proofs.FourSymbols.{whole_symbol}
use Rattle.miller_line.proofs.subcarrier.block.Goals as goal

pub slice_bounds-result-end : goal.slice_bounds-result-end
slice_bounds-result-end c = whole_symbol c.args.m _ _ c.four_symbols-symbols.result.now c.requires c.four_symbols-symbols.ensures
