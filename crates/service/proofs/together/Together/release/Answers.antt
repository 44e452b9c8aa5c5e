use Rattle.std.proofs.Common.{◌≡◌, [], ◌∷◌, List, ℕ, length, refl, sym, ap, rules, subst, arith}
use Rattle.std.specs.List.{Contains}
use Rattle.service.proofs.Marking.{AreFreeBut, frees_next, frees_all, goes_but_held}
use Rattle.service.proofs.Seeing.{not_first, seen_let_go}
use Rattle.service.specs.declared.together.Together.{Together}
use Rattle.service.proofs.together.Together.release.Goals as goal

empty : (ks : List ℕ) → length ks ≡ 0 → ks ≡ []
empty [] none = refl
empty (k ∷ ks) none = absurd (omega arith)

pub loop-preserved : goal.loop-preserved
loop-preserved g c =
    let l = c.loop.self.members.entries in
    let m = c.let_go_on.new.self.members.entries in
    let k = c.in-Some.number in
    let rest = c.pop_front.new.self.items in
    let done = c.let_go_on.ensures in
    let first : c.loop.self.held.items ≡ k ∷ rest = search rules in
    let left : c.let_go_on.new.self.held.items ≡ rest = ap (λ z. z.held.items) done.rest in
    record {
      same = goes_but_held g.S.Peer.spoke c.args.now c.args.self.now.members.entries l m k done.at done.others done.many c.loop.invariant.same;
      free = subst (λ ks. AreFreeBut c.args.now c.args.self.now.held.items ks m) (sym left) (frees_next g.S.Peer.spoke c.args.now c.args.self.now.held.items c.loop.self.held.items rest k l m first done.at done.others c.loop.invariant.free);
      seen = λ seen. seen_let_go g.S.Peer.full g.S.Peer.dry g.S.Peer.spoke c.args.now k c.loop.self (record c.loop.self { held = c.pop_front.new.self }) c.let_go_on.new.self
          (λ j n there. not_first k j rest n (subst (λ ks. Contains ks j) first there)) refl done.at done.others done.wake done.sooner done.list done.short done.rest (c.loop.invariant.seen seen);
      rest = subst (λ (z : Together g.row.S.Denot). z ≡ record c.args.self.now { members = z.members; ready = z.ready; short = z.short; held = z.held; wake = z.wake }) (sym done.rest) (ap (λ (z : Together g.row.S.Denot). let new = c.let_go_on.new.self in record z { members = new.members; ready = new.ready; short = new.short; held = c.pop_front.new.self; wake = new.wake }) c.loop.invariant.rest);
      many = let a = ap length first in let b = ap length left in omega (arith, a, b, c.loop.invariant.many);
    }

pub returns-clause-free : goal.returns-clause-free
returns-clause-free g c = frees_all g.S.Peer.spoke c.args.now c.args.self.now.held.items c.loop.self.held.items c.loop.self.members.entries (empty c.loop.self.held.items (omega arith)) c.loop.invariant.free
