-- What a command came to, said of the words.
use Rattle.std.proofs.Common.{◌≡◌, ◌∙◌, ◌⊎◌, ◌<◌, ◌≤◌, ◌+◌, ap, arith, subst, sym, inl, inr, refl, ℕ, List, []}
use Rattle.std.specs.Prelude.{codes, Option, Some, None, option_map, unwrap_or}
use Rattle.std.specs.Option.{option_map_or}
use Rattle.clap.specs.Words.{Row, Text, fault_of, subcommand_of}
use Rattle.command_lines.specs.CommandLine.{CallsCommand, options_of, program_line}
use Rattle.cli.specs.Built.{BeginsBuild, Below, PrintsBuild}
use Rattle.cli.specs.Refused.{FailsBuild}
use Rattle.cli.specs.Ended.{BeginsAsked, EndsNo, Fails, IsDone}
use Rattle.cli.specs.Ended.BeginsAsked.{built as build_begun, compared as compare_begun, hashed as digest_begun, got as get_begun, put as put_begun, served as serve_begun, verified as verify_begun}
use Rattle.cli.specs.Running.{Ends, TellsEnd}
use Rattle.cli.specs.Ended.Fails.{in_build, in_compare, in_digest, in_get, in_put, in_serve, in_verify}
use Rattle.cli.specs.Ended.IsDone.{built, got, same, yes}
use Rattle.cli.specs.Ended.IsNo.{differ, failed, no, none}
use Rattle.commands.specs.Compared.{BeginsComparison, ComparesAsked, FailsCompare}
use Rattle.commands.specs.Digested.{BeginsDigestRead, FailsDigest}
use Rattle.commands.specs.Verified.{BeginsAnswer, FailsAsked, VerifiesAsked}
use Rattle.commands.specs.Printed.{BeginsDigest, BeginsListening, GetsAsked, GetsPart}
use Rattle.commands.specs.World.{Sight}
use Rattle.commands.specs.GetRefused.{FailsGet}
use Rattle.commands.specs.PutRefused.{FailsPut}
use Rattle.commands.specs.ServeRefused.{FailsServe}
use Rattle.commands.specs.declared.ended.Ended.{Ended}
use Rattle.commands.specs.declared.ended.Ended.TheVariants.{Done, No}
use Rattle.commands.specs.Status.{exit_status}
use Rattle.commands.specs.Told.{PrintsNoLine}
use Rattle.commands.specs.declared.error.CommandError.{CommandError}
use Rattle.commands.specs.declared.error.CommandError.TheVariants.{Archive, DigestFile, Usage, Digest, Number, Text as TextFault, InvalidValue, File}
use Rattle.commands.specs.declared.error.CommandError.TheVariants.{NotAFile, TooLarge, Entry, Connection}
use Rattle.commands.specs.declared.error.CommandError.TheVariants.{Server, Blob, Accept, Address, Random}
use Rattle.commands.specs.declared.error.CommandError.TheVariants.{Output, Memory, Process, Stages}

-- the rows of the subcommand that was found are those of the one that the words call
options_found : (found called : Option (Text × List Row)) (rows : List Row) → found ≡ called → Some rows ≡ option_map (λ p. p.1) found → rows ≡ option_map_or (λ p. p.1) called []
options_found None called rows is e = absurd (never e)
  where
    never : ◌≡◌ {A = Option (List Row)} (Some rows) None → ⊥
    never h = cc
options_found (Some p) called rows is e = ap (λ (o : Option (List Row)). unwrap_or o []) e ∙ ap (λ (o : Option (Text × List Row)). option_map_or (λ q. q.1) o []) is

-- the words call the command of that name, and its rows are those
pub called_by : (words : List Text) (name : Text) (found : Option (Text × List Row)) (rows : List Row) → fault_of program_line words ≡ [] → found ≡ subcommand_of program_line words
    → option_map (λ p. p.0) found ≡ Some name → Some rows ≡ option_map (λ p. p.1) found → CallsCommand words name × (rows ≡ options_of words)
called_by words name found rows faultless is named e = (
  record { faultless = faultless; command_is = ap (λ (o : Option (Text × List Row)). option_map (λ p. p.0) o) (sym is) ∙ named },
  options_found found (subcommand_of program_line words) rows is e,
)

-- words that call a command name one
pub none_called : (found called : Option (Text × List Row)) (name : Text) → found ≡ called → ◌≡◌ {A = Option (List Row)} None (option_map (λ p. p.1) found)
    → option_map (λ p. p.0) called ≡ Some name → ⊥
none_called None called name is none_found named = let same : ◌≡◌ {A = Option Text} None (Some name) = ap (λ (o : Option (Text × List Row)). option_map (λ p. p.0) o) is ∙ named in cc
none_called (Some p) called name is none_found named = cc

module _ {sees : Sight} (below : Below) (words : List Text) {rows : List Row} (is : rows ≡ options_of words) where
  pub verify_ends : {old new : Option (List ℕ)} (ended : Ended) → CallsCommand words (codes "verify") → VerifiesAsked sees rows old new ended → Ends sees below words old new ended
  verify_ends {old} {new} Done called h = yes called (subst (λ (o : List Row). VerifiesAsked sees o old new Done) is h)
  verify_ends {old} {new} (No note) called h = no called (subst (λ (o : List Row). VerifiesAsked sees o old new (No note)) is h)

  pub compare_ends : (old new : Option (List ℕ)) (ended : Ended) → CallsCommand words (codes "compare") → ComparesAsked sees rows old new ended → Ends sees below words old new ended
  compare_ends old new Done called h = same called (subst (λ (o : List Row). ComparesAsked sees o old new Done) is h)
  compare_ends old new (No note) called h = differ called (subst (λ (o : List Row). ComparesAsked sees o old new (No note)) is h)

  pub get_ends : {old new : Option (List ℕ)} (ended : Ended) → CallsCommand words (codes "get") → GetsAsked sees rows old new ended → Ends sees below words old new ended
  get_ends {old} {new} Done called h = got called (subst (λ (o : List Row). GetsAsked sees o old new Done) is h)
  get_ends {old} {new} (No note) called h = none called (subst (λ (o : List Row). GetsAsked sees o old new (No note)) is h)

-- what may come of the steps is as the options say
module _ {sees : Sight} (below : List Row → Below) (words : List Text) {rows : List Row} (is : rows ≡ options_of words) where
  pub build_ends : {old new : Option (List ℕ)} (ended : Ended) → CallsCommand words (codes "build") → PrintsBuild sees (below rows) rows old new ended → Ends sees (below (options_of words)) words old new ended
  build_ends {old} {new} Done called h = built called (subst (λ (o : List Row). PrintsBuild sees (below o) o old new Done) is h)
  build_ends {old} {new} (No note) called h = failed called (subst (λ (o : List Row). PrintsBuild sees (below o) o old new (No note)) is h)

  pub build_begins : {old new : Option (List ℕ)} → CallsCommand words (codes "build") → BeginsBuild sees (below rows) rows old new → BeginsAsked sees (below (options_of words)) words old new
  build_begins {old} {new} called h = build_begun called (subst (λ (o : List Row). BeginsBuild sees (below o) o old new) is h)

  pub build_fails : (e : CommandError) → CallsCommand words (codes "build") → FailsBuild sees (below rows) rows e → Fails sees (below (options_of words)) words e
  build_fails e called h = in_build called (subst (λ (o : List Row). FailsBuild sees (below o) o e) is h)

module _ {sees : Sight} {below : Below} (words : List Text) {rows : List Row} (is : rows ≡ options_of words) where
  pub verify_begins : {old new : Option (List ℕ)} → CallsCommand words (codes "verify") → BeginsAnswer sees rows old new → PrintsNoLine old new → BeginsAsked sees below words old new
  verify_begins {old} {new} called h unended = verify_begun called (subst (λ (o : List Row). BeginsAnswer sees o old new) is h) unended

  pub get_begins : {old new : Option (List ℕ)} → CallsCommand words (codes "get") → GetsPart sees rows old new → BeginsAsked sees below words old new
  get_begins {old} {new} called h = get_begun called (subst (λ (o : List Row). GetsPart sees o old new) is h)

  pub put_begins : {old new : Option (List ℕ)} → CallsCommand words (codes "put") → BeginsDigest sees rows old new → BeginsAsked sees below words old new
  put_begins {old} {new} called h = put_begun called (subst (λ (o : List Row). BeginsDigest sees o old new) is h)

  pub compare_begins : {old new : Option (List ℕ)} → CallsCommand words (codes "compare") → BeginsComparison sees rows old new → PrintsNoLine old new → BeginsAsked sees below words old new
  compare_begins {old} {new} called h unended = compare_begun called (subst (λ (o : List Row). BeginsComparison sees o old new) is h) unended

  pub digest_begins : {old new : Option (List ℕ)} → CallsCommand words (codes "digest") → BeginsDigestRead sees rows old new → BeginsAsked sees below words old new
  digest_begins {old} {new} called h = digest_begun called (subst (λ (o : List Row). BeginsDigestRead sees o old new) is h)

  pub serve_begins : {old new : Option (List ℕ)} → CallsCommand words (codes "serve") → BeginsListening sees rows old new → BeginsAsked sees below words old new
  serve_begins {old} {new} called h = serve_begun called (subst (λ (o : List Row). BeginsListening sees o old new) is h)

  pub verify_fails : (e : CommandError) → CallsCommand words (codes "verify") → FailsAsked sees rows e → Fails sees below words e
  verify_fails e called h = in_verify called (subst (λ (o : List Row). FailsAsked sees o e) is h)

  pub put_fails : (e : CommandError) → CallsCommand words (codes "put") → FailsPut sees rows e → Fails sees below words e
  put_fails e called h = in_put called (subst (λ (o : List Row). FailsPut sees o e) is h)

  pub compare_fails : (e : CommandError) → CallsCommand words (codes "compare") → FailsCompare sees rows e → Fails sees below words e
  compare_fails e called h = in_compare called (subst (λ (o : List Row). FailsCompare sees o e) is h)

  pub digest_fails : (e : CommandError) → CallsCommand words (codes "digest") → FailsDigest sees rows e → Fails sees below words e
  digest_fails e called h = in_digest called (subst (λ (o : List Row). FailsDigest sees o e) is h)

  pub get_fails : (e : CommandError) → CallsCommand words (codes "get") → FailsGet sees rows e → Fails sees below words e
  get_fails e called h = in_get called (subst (λ (o : List Row). FailsGet sees o e) is h)

  pub serve_fails : (e : CommandError) → CallsCommand words (codes "serve") → FailsServe sees rows e → Fails sees below words e
  serve_fails e called h = in_serve called (subst (λ (o : List Row). FailsServe sees o e) is h)

not_less : (k : ℕ) → 2 + k < 2 → ⊥
not_less k lt = omega arith

-- the status of an error
status_is : (e : CommandError) → (exit_status e ≡ 2) ⊎ (exit_status e ≡ 3)
status_is (Usage text) = inl refl
status_is (Digest option text fault) = inl refl
status_is (Number option greatest text) = inl refl
status_is (TextFault path fault hint) = inl refl
status_is (InvalidValue option expected text) = inl refl
status_is (DigestFile path fault) = inl refl
status_is (Archive path at refusal) = inl refl
status_is (Stages path line) = inl refl
status_is (File path fault) = inr refl
status_is (NotAFile path) = inr refl
status_is (TooLarge path) = inr refl
status_is (Entry path fault) = inr refl
status_is (Connection server fault) = inr refl
status_is (Server server failure) = inr refl
status_is (Blob server digest fault) = inr refl
status_is (Address text fault) = inr refl
status_is (Accept fault) = inr refl
status_is (Process fault) = inr refl
status_is (Random fault) = inr refl
status_is (Output fault) = inr refl
status_is Memory = inr refl

pub few_statuses : (s : ℕ) (e : CommandError) → s ≡ exit_status e → s < 4
few_statuses s e is = go (status_is e)
  where
    go : (exit_status e ≡ 2) ⊎ (exit_status e ≡ 3) → s < 4
    go (inl two) = subst (λ n. n < 4) (sym (is ∙ two)) (omega arith)
    go (inr three) = subst (λ n. n < 4) (sym (is ∙ three)) (omega arith)

pub no_answer : (s : ℕ) (e : CommandError) → s ≡ exit_status e → s < 2 → ⊥
no_answer s e is lt = go (status_is e)
  where
    go : (exit_status e ≡ 2) ⊎ (exit_status e ≡ 3) → ⊥
    go (inl two) = absurd (not_less 0 (subst (λ n. n < 2) (is ∙ two) lt))
    go (inr three) = absurd (not_less 1 (subst (λ n. n < 2) (is ∙ three) lt))

zero_or_one : (s : ℕ) → s ≡ 0 → s ≡ 1 → ⊥
zero_or_one s zero one = let same : ◌≡◌ {A = ℕ} 0 1 = sym zero ∙ one in omega (arith, same)

module _ (status : ℕ) (old new : Option (List ℕ)) where
  -- the status of an answer is less than that of a refusal
  few : (ended : Ended) → TellsEnd ended status old new → status < 2
  few Done h = subst (λ n. n < 2) (sym h.0) (omega arith)
  few (No _) h = subst (λ n. n < 2) (sym h.0) (omega arith)

  pub not_refused : (ended : Ended) → TellsEnd ended status old new → 2 ≤ status → ⊥
  not_refused ended h many = let less = few ended h in omega (arith, many, less)

  pub ends_below : (ended : Ended) → TellsEnd ended status old new → status < 4
  ends_below ended h = let less = few ended h in omega (arith, less)

  pub ends_quiet : (ended : Ended) → TellsEnd ended status old new → status ≡ 0 → new ≡ old
  ends_quiet Done h zero = h.1
  ends_quiet (No _) h zero = absurd (zero_or_one status zero h.0)

  pub ends_done : (sees : Sight) (below : Below) (words : List Text) (a b : Option (List ℕ)) (ended : Ended) → Ends sees below words a b ended → TellsEnd ended status old new
      → status ≡ 0 → IsDone sees below words a b
  ends_done sees below words a b Done ends h zero = ends
  ends_done sees below words a b (No _) ends h zero = absurd (zero_or_one status zero h.0)

  pub ends_no : (sees : Sight) (below : Below) (words : List Text) (a b : Option (List ℕ)) (ended : Ended) → Ends sees below words a b ended → TellsEnd ended status old new
      → status ≡ 1 → EndsNo sees below words a b old new
  ends_no sees below words a b Done ends h one = absurd (zero_or_one status h.0 one)
  ends_no sees below words a b (No note) ends h one = record { note = note; no = ends; told = h.1 }
