-- The answers to a beginning begin the answers to the whole.
use Rattle.std.proofs.Common.{◌≡◌, ℕ, List, ◌++◌, refl, sym, subst, append_assoc}
use Rattle.http_core.specs.Event.{EventValue}
use Rattle.http_core.proofs.Cutting.{cut_further}
use Rattle.cache_server.specs.Answering.{answered_all}
use Rattle.cache_server.specs.Cache.{CacheValue}
use Rattle.cache_server.specs.Laws.{BeginsTheAnswers}
use Rattle.cache_server.proofs.Serving.{ServesAll, serves_join}

pub begins_the_answers : BeginsTheAnswers
begins_the_answers prefix old new front rest told lost left whole_left events is cut =
    let x : (others : List EventValue) × (events ≡ is.events ++ others) = cut_further prefix front rest is.events events left whole_left is.cut cut in
    let y : List ℕ × CacheValue = answered_all new x.0 in
    let s : ServesAll old (is.events ++ x.0) ((told ++ lost) ++ y.0) y.1 = serves_join old new y.1 is.events x.0 (told ++ lost) y.0 is.answers refl in (
      lost ++ y.0,
      y.1,
      record {
        events = events;
        cut = cut;
        answers = subst (λ z. ServesAll old z (told ++ (lost ++ y.0)) y.1) (sym x.1) (subst (λ z. ServesAll old (is.events ++ x.0) z y.1) (append_assoc told lost y.0) s);
      },
    )
