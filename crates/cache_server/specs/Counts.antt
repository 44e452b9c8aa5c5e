-- How many requests were answered, and how many look-ups found what they asked for.
use Rattle.std.specs.Prelude.{ℕ, ◌+◌, ◌-◌, ◌==◌, min, Bool}
use Rattle.std.specs.Prelude.{if◌then◌else◌}
use Rattle.http_core.specs.Event.{AskValue, Get, Put}
use Rattle.cache_server.specs.declared.counts.Counts.{Counts}

-- of a new cache
abbrev pub no_counts : Counts
no_counts = record { requests = 0; hits = 0; misses = 0 }

-- a count with so many more, as far as a machine word goes
abbrev pub count_with : ℕ → ℕ → ℕ
count_with count more = min (count + more) 18446744073709551615

-- one request more
abbrev pub with_request : Counts → Counts
with_request c = record c { requests = count_with c.requests 1 }

-- one look-up more, which found what it asked for, or didn't
abbrev pub with_look_up : Bool → Counts → Counts
with_look_up found c =
    if found then record (with_request c) { hits = count_with c.hits 1 }
    else record (with_request c) { misses = count_with c.misses 1 }

-- a request that was answered with this status: of a look-up 200 is a hit, and all else a miss
abbrev pub count_ask : AskValue → ℕ → Counts → Counts
count_ask (Get area hash) status c = with_look_up (status == 200) c
count_ask (Put area hash body) status c = with_request c

-- counts with what was counted from the earlier ones to the later
abbrev pub with_later : Counts → Counts → Counts → Counts
with_later c earlier later = record {
  requests = count_with c.requests (later.requests - earlier.requests);
  hits = count_with c.hits (later.hits - earlier.hits);
  misses = count_with c.misses (later.misses - earlier.misses);
}
