use Rattle.std.proofs.Common.{◌∙◌, rules, arith}
use Rattle.http_core.specs.ReplyHead.{IsReplyHead}
use Rattle.http_core.proofs.Replies.{shown_says, invalid, valid_head}
use Rattle.http_core.proofs.reply_head.read_reply_head.Goals as goal

pub returns-clause-none : goal.returns-clause-none
returns-clause-none c =
    invalid c.head_in.result (IsReplyHead c.args.block.now)
    (λ head h. c.head_in.ensures ∙ shown_says c.args.block.now c.in_ok-response.response head c.in_ok-response.ensures.head h)

pub returns-clause-some : goal.returns-clause-some
returns-clause-some c =
    valid_head c.head_in.result c.args.block.now c.in_ok-response.response (c.is_block.ensures.0 (search (rules, c.if-not-is_block.false))) (omega (arith, c.if-block-gt-MAX_BLOCK.false))
    (let p = c.count_pairs.ensures in omega (arith, p, c.if-count_pairs-gt-MAX_PAIRS.false)) c.in_ok-response.ensures.head c.head_in.ensures
