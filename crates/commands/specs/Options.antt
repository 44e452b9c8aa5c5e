-- What the texts of options have to be, and what they say of a server.
use Rattle.std.specs.Prelude.{◌≡◌, ℕ, ◌<◌, ◌^◌, ◌*◌, List, ◌∷◌, ◌++◌, length, Option, None, Some}
use Rattle.std.specs.Prelude.{codes, string_bytes}
use Rattle.std.specs.Duration.{as_nanos}
use Rattle.std.specs.Option.{option_map_or}
use Rattle.std.specs.Str.Parse.{IsNumeral, digits_value}
use Rattle.std.specs.declared.time.Duration.{Duration}
use Rattle.clap.specs.Words.{Row, first_of}
use Rattle.command_lines.specs.CommandLine.{option_text}
use Rattle.commands.specs.declared.connecting.ServerOptions.{ServerOptions}

-- decimal digits alone, one or more, of a number less than 2 ^ 64
abbrev pub IsNumber : List ℕ → Type 0
IsNumber text = IsNumeral 10 text × (digits_value 10 text < 2 ^ 64)

-- the greatest of these
abbrev pub greatest_number : ℕ
greatest_number = 18446744073709551615

-- the number that decimal digits spell
abbrev pub decimal_number : List ℕ → ℕ
decimal_number = digits_value 10

-- the number of an option, or this one where nothing is said of it
abbrev pub number_or : ℕ → List Row → List ℕ → ℕ
number_or usual options option = option_map_or decimal_number (first_of option options) usual

-- HOST:PORT: some bytes, a colon and a number less than 65,536
pub record IsAddress (text : List ℕ) : Type 0 where
  pub host : List ℕ
  pub port : List ℕ
  pub cut : text ≡ host ++ 58 ∷ port
  pub some : 0 < length host
  pub number : IsNumber port
  pub few : decimal_number port < 65536

-- how long a server may be silent: so many seconds, and with 0 for ever
abbrev pub IsTimeout : ℕ → Option Duration → Type 0
IsTimeout seconds None = seconds ≡ 0
IsTimeout seconds (Some timeout) = (0 < seconds) × (as_nanos timeout ≡ seconds * 1_000_000_000)

-- the server that the options name, with what they say of it, and 60 seconds where they don't
pub record IsServerOf (options : List Row) (server : ServerOptions) : Type 0 where
  pub address : string_bytes server.address ≡ option_text options (codes "server")
  pub host : server.host ≡ option_text options (codes "server")
  pub prefix : server.prefix ≡ option_text options (codes "prefix")
  pub timeout : IsTimeout (number_or 60 options (codes "timeout")) server.timeout

-- a server that the options name, of which this holds
abbrev pub OnNamedServer : List Row → (ServerOptions → Type 0) → Type 0
OnNamedServer options is = (server : ServerOptions) × IsServerOf options server × is server
