-- Why `serve` ends without having served: the first fault, in the order words, random bytes,
-- address, output and connections.
use Rattle.std.specs.Prelude.{◌≡◌, ℕ, List, codes, string_bytes}
use Rattle.std.specs.declared.net.socket_addr.SocketAddr.{SocketAddr}
use Rattle.clap.specs.Words.{Row}
use Rattle.command_lines.specs.CommandLine.{option_text}
use Rattle.service.specs.declared.error.NotAccepted.{NotAccepted}
use Rattle.commands.specs.Printed.{SpellsLimits, StartsServe, serving_of}
use Rattle.commands.specs.Refusal.{IsPrintFault}
use Rattle.commands.specs.Words.{AllValid, FailsFirst, serve_words}
use Rattle.commands.specs.World.{Sight}
use Rattle.commands.specs.declared.error.CommandError.{CommandError}
use Rattle.commands.specs.declared.error.CommandError.TheVariants.{Accept, Address, Memory, Random}

-- ---- faults

-- the error tells why no random bytes could be had
abbrev pub FailsForRandom : Sight → CommandError → Type 0
FailsForRandom sees (Random fault) = sees.unrandom fault
FailsForRandom sees _ = ⊥

-- no more connections are served
abbrev pub IsAcceptFault : CommandError → Type 0
IsAcceptFault (Accept fault) = Unit {0}
IsAcceptFault _ = ⊥

-- no socket could be bound at this place
abbrev pub FailsToListen : Sight → List ℕ → CommandError → Type 0
FailsToListen sees place (Address text fault) =
    (string_bytes text ≡ place) × sees.unbound place fault
FailsToListen sees place _ = ⊥

-- The first fault: what comes before it has none. That memory is wanting may come anywhere, and is
-- told as that.
pub data FailsServe (sees : Sight) (options : List Row) (e : CommandError) : Type 0 where
  in_memory : e ≡ Memory → FailsServe sees options e
  in_words : FailsFirst (serve_words options) e → FailsServe sees options e
  in_random : AllValid (serve_words options) → FailsForRandom sees e → FailsServe sees options e
  in_address : AllValid (serve_words options) → sees.random
      → FailsToListen sees (option_text options (codes "listen")) e → FailsServe sees options e
  in_output : (address : SocketAddr) → StartsServe sees options address → IsPrintFault e
      → FailsServe sees options e
  in_connections : (address : SocketAddr) (limit result_limit : ℕ) (fault : NotAccepted)
      → StartsServe sees options address → SpellsLimits options limit result_limit
      → sees.unserved (serving_of options limit result_limit address) fault → e ≡ Accept fault
      → FailsServe sees options e
