use Rattle.std.proofs.Common.{◌≡◌, ◌≤◌, ◌-◌, drop, length}
use Rattle.setup_client.specs.Blocks.{block_among}
use Rattle.setup_client.proofs.blocks.tells_block.Given as goal

abbrev pub invariant-loop : goal.invariant-loop
invariant-loop l = record {
  rest : block_among (length l.told - l.counter) (drop l.at l.told) ≡ block_among (length l.told) l.told;
  within : l.at ≤ length l.told;
}
