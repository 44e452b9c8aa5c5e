use Rattle.std.proofs.Common.{subst, sym}
use Rattle.action_cache.specs.Machine.{empty_cache}
use Rattle.action_cache.specs.Asking.{after, StaysPinned}
use Rattle.action_cache.proofs.Asked.{sound_opened, sound_after, after-append, stays_after, whole_answer, hash_answered}
use Rattle.action_cache.proofs.laws.caches_keep_what_is_pinned.Goals as goal

pub returns-clause-pinned : goal.returns-clause-pinned
returns-clause-pinned c = λ reader limit result_limit before later h r u p n.
    let s = after reader (empty_cache limit result_limit) before in
    subst (λ t. StaysPinned reader s t h r) (sym (after-append reader before later (empty_cache limit result_limit)))
    (stays_after reader later s (sound_after reader before (empty_cache limit result_limit) (sound_opened reader limit result_limit)) h r u p n)

pub returns-clause-whole : goal.returns-clause-whole
returns-clause-whole c = λ reader limit result_limit asks h bytes e. whole_answer reader (after reader (empty_cache limit result_limit) asks)
    (sound_after reader asks (empty_cache limit result_limit) (sound_opened reader limit result_limit)) h bytes e

pub returns-clause-within : goal.returns-clause-within
returns-clause-within c = λ reader limit result_limit asks.
    (sound_after reader asks (empty_cache limit result_limit) (sound_opened reader limit result_limit)).within

pub returns-clause-hash : goal.returns-clause-hash
returns-clause-hash c = λ reader limit result_limit asks h bytes e. hash_answered reader (after reader (empty_cache limit result_limit) asks)
    (sound_after reader asks (empty_cache limit result_limit) (sound_opened reader limit result_limit)) h bytes e
