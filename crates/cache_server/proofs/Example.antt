-- A request that is answered.
use Rattle.std.proofs.Common.{◌≡◌, Some, List, ℕ, [], ◌∷◌, refl}
use Rattle.sha2.specs.Sha256.{compress, digest_bytes, first_words, hash_after, rounds, schedule, sha256}
use Rattle.http_core.specs.declared.event.Area.TheVariants.{Cas}
use Rattle.http_core.specs.Event.{Get}
use Rattle.http_core.proofs.Example.{get, gone, get_cut}
use Rattle.cache_server.specs.Answering.{answered}
use Rattle.cache_server.specs.Cache.{CacheValue, applied, unused_cache, step}
use Rattle.cache_server.specs.Connection.{IsAnswered}
use Rattle.cache_server.specs.History.{Piece, stream_of, since_end, until_fail, Brings, BringsAll, CacheAfter, AnswersTo}
use Rattle.cache_server.proofs.Connections.{nothing_cut}
use Rattle.cache_server.proofs.Serving.{ServesAll, serves_none, serves_one}

abbrev opening : CacheValue
opening = unused_cache 0 0

abbrev out : List ℕ × CacheValue
out = answered opening gone

serves : ServesAll opening (gone ∷ []) out.0 out.1
serves = serves_one opening out.1 gone out.0 refl

brings : Brings [] [] (Piece 0 get) (gone ∷ [])
unfolding stream_of until_fail since_end
brings = ([], Some [], Some [], nothing_cut [], get_cut)

pub after_get : CacheAfter [] opening (Piece 0 get ∷ []) out.1
unfolding CacheAfter BringsAll
after_get = (gone ∷ [], out.0, (gone ∷ [], [], brings, refl, refl), serves)

pub answers_get : AnswersTo [] opening [] (Piece 0 get) out.0
unfolding CacheAfter BringsAll AnswersTo
answers_get = (gone ∷ [], opening, out.1, ([], [], refl, serves_none opening), brings, serves)

pub get_answered : IsAnswered [] opening get out.0 (Some []) out.1
get_answered = record { events = gone ∷ []; cut = get_cut; answers = serves }

pub finds_no_bytes : (applied out.1 (Get Cas (sha256 []))).0.status ≡ 200
unfolding step first_words schedule rounds compress hash_after digest_bytes sha256
finds_no_bytes = refl
