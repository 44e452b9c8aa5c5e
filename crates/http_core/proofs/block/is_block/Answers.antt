use Rattle.std.proofs.Common.{◌≡◌, true, sym, subst, rules, arith}
use Rattle.http_core.specs.Block.{EndsBlock}
use Rattle.http_core.proofs.Blocks.{block_of, none_yet}
use Rattle.http_core.proofs.block.is_block.Goals as goal

pub loop-end-preserved : goal.loop-end-preserved
loop-end-preserved c = record {
  within = omega (arith, c.loop-end-test.true);
  none = none_yet c.args.bytes.now c.loop-end.end c.loop-end.invariant.none (λ h. let t : c.ends_block.result ≡ true = search (rules, c.ends_block.ensures.1 (subst EndsBlock (sym c.split_at.ensures.front) h)) in let f = c.if-ends_block.false in cc);
}

pub returns : goal.returns
returns c = (
  λ t. block_of c.args.bytes.now (λ n short. c.loop-end.invariant.none n (omega (arith, short, c.loop-end-test.false))) (c.ends_block-2.ensures.0 t),
  λ b. c.ends_block-2.ensures.1 b.ends,
)
