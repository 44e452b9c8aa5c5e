use Rattle.std.proofs.Common.{arith, refl}
use Rattle.exchange.proofs.Example.{after_history, after_put, blob_back, blob_got, blob_put, full_small, none_held, opened, refuses, result_back, serves_full, serves_get, serves_put, tells}
use Rattle.exchange.proofs.laws.a_conversation_meets_the_premises.Goals as goal

pub returns : goal.returns
returns c = record {
  blob = blob_back;
  result = result_back;
  cache = (opened, none_held);
  put = (blob_put, serves_put);
  get = (after_put, blob_got, serves_get);
  full = (refuses, serves_full, full_small);
  valid = (omega arith, (refl, tt));
  history = (after_history, refl, tells);
}
