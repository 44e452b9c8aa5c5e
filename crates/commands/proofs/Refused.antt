-- What a refused command is told for.
use Rattle.std.proofs.Common.{◌≡◌, List, ℕ, inl, inr, subst}
use Rattle.std.specs.declared.net.socket_addr.SocketAddr.{SocketAddr}
use Rattle.clap.specs.Words.{Row}
use Rattle.commands.specs.Faults.{OrMemory}
use Rattle.commands.specs.Refusal.{IsPrintFault}
use Rattle.commands.specs.Printed.{IsServeRequest, StartsServe}
use Rattle.commands.specs.ServeRefused.{FailsForRandom, FailsToListen, IsAcceptFault}
use Rattle.commands.specs.Words.{AllValid, FailsFirst, serve_words}
use Rattle.commands.specs.World.{Sight}
use Rattle.commands.specs.declared.error.CommandError.{CommandError}
use Rattle.commands.specs.declared.serving.ServeRequest.{ServeRequest}
use Rattle.commands.specs.declared.error.CommandError.TheVariants.{Accept, Memory}

-- so it is, or memory ran out, by what is so
pub or_weaker : (P Q : CommandError → Type 0) (e : CommandError) → (P e → Q e) → OrMemory P e → OrMemory Q e
or_weaker P Q e is (inl m) = inl m
or_weaker P Q e is (inr p) = inr (is p)

-- memory ran out, or so it is
pub or_memory : (P Q : CommandError → Type 0) (e : CommandError) → (e ≡ Memory → Q e) → (P e → Q e) → OrMemory P e → Q e
or_memory P Q e memory is (inl m) = memory m
or_memory P Q e memory is (inr p) = is p

-- ---- the whole command

pub starts_serve : (sees : Sight) (options : List Row) (request : ServeRequest) (address : SocketAddr) → IsServeRequest options request → AllValid (serve_words options)
    → sees.listens request.address.now address → StartsServe sees options address
starts_serve sees options request address is valid listens = record { valid = valid; listens = subst (λ a. sees.listens a address) is.address listens }

-- ---- no fault of connections

module _ (options : List Row) where
  pub words_not_accept : (e : CommandError) → OrMemory (FailsFirst (serve_words options)) e → IsAcceptFault e → ⊥
  words_not_accept e (inl memory) accept = subst IsAcceptFault memory accept
  words_not_accept (Accept f) (inr fails) accept = first fails
    where
      first : FailsFirst (serve_words options) (Accept f) → ⊥
      first (inl h) = h.1
      first (inr (a, inl h)) = h.1
      first (inr (a, inr (b, inl h))) = h.1
      first (inr (a, inr (b, inr (c, inl h)))) = h.1
      first (inr (a, inr (b, inr (c, inr (d, inl h))))) = h.1
      first (inr (a, inr (b, inr (c, inr (d, inr (x, inl h)))))) = h.1
      first (inr (a, inr (b, inr (c, inr (d, inr (x, inr (y, inl h))))))) = h.1
      first (inr (a, inr (b, inr (c, inr (d, inr (x, inr (y, inr (z, inl h)))))))) = h.1
      first (inr (a, inr (b, inr (c, inr (d, inr (x, inr (y, inr (z, inr h)))))))) = h.1
  words_not_accept _ (inr fails) accept = accept

pub random_not_accept : (sees : Sight) (e : CommandError) → FailsForRandom sees e → IsAcceptFault e → ⊥
random_not_accept sees (Accept f) fails accept = fails
random_not_accept sees _ fails accept = accept

pub listen_not_accept : (sees : Sight) (place : List ℕ) (e : CommandError) → OrMemory (FailsToListen sees place) e → IsAcceptFault e → ⊥
listen_not_accept sees place e (inl memory) accept = subst IsAcceptFault memory accept
listen_not_accept sees place (Accept f) (inr fails) accept = fails
listen_not_accept sees place _ (inr fails) accept = accept

pub print_not_accept : (e : CommandError) → OrMemory IsPrintFault e → IsAcceptFault e → ⊥
print_not_accept e (inl memory) accept = subst IsAcceptFault memory accept
print_not_accept (Accept f) (inr fails) accept = fails
print_not_accept _ (inr fails) accept = accept
