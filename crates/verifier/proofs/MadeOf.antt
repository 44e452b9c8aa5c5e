-- Directories that are appended, output by output and step by step.
use Rattle.std.proofs.Common.{◌≡◌, ◌∙◌, ◌+◌, ◌<◌, ◌++◌, ◌∷◌, ℕ, List, [], ap, append-nil, append_assoc, get_or, length, map, refl, subst, sym, take}
use Rattle.std.proofs.lemmas.List.{map-append, take_more}
use Rattle.actions.specs.Outcome.{OutcomeValue, OutputValue, output_value, outputs_in}
use Rattle.actions.specs.declared.outcome.Output.{Output}
use Rattle.verifier.specs.Made.{outcomes_directories, output_directories, outputs_directories}

outputs_more : (es fs : List (List (List ℕ) × OutputValue)) → outputs_directories (es ++ fs) ≡ outputs_directories es ++ outputs_directories fs
outputs_more [] fs = refl
outputs_more (e ∷ es) fs = ap (λ ds. output_directories e.1 ++ ds) (outputs_more es fs) ∙ sym (append_assoc (output_directories e.1) (outputs_directories es) (outputs_directories fs))

outcomes_more : (os ps : List OutcomeValue) → outcomes_directories (os ++ ps) ≡ outcomes_directories os ++ outcomes_directories ps
outcomes_more [] ps = refl
outcomes_more (o ∷ os) ps = ap (λ ds. outputs_directories o.outputs ++ ds) (outcomes_more os ps) ∙ sym (append_assoc (outputs_directories o.outputs) (outcomes_directories os) (outcomes_directories ps))

-- one output more
pub next_output : {A : Type 0} (es : List (List (List ℕ) × Output A)) (i : ℕ) (e : List (List ℕ) × Output A) → i < length es → e ≡ get_or es i e
    → outputs_directories (outputs_in (take (i + 1) es)) ≡ outputs_directories (outputs_in (take i es)) ++ output_directories (output_value e.1)
next_output {A} es i e lt is =
    let cut : take (i + 1) es ≡ take i es ++ e ∷ [] = take_more es i e lt ∙ ap (λ x. take i es ++ x ∷ []) (sym is) in
    ap (λ l. outputs_directories (outputs_in l)) cut ∙ ap outputs_directories (map-append (λ (x : List (List ℕ) × Output A). (x.0, output_value x.1)) (take i es) (e ∷ []))
    ∙ outputs_more (outputs_in (take i es)) ((e.0, output_value e.1) ∷ []) ∙ ap (λ ds. outputs_directories (outputs_in (take i es)) ++ ds) (append-nil (output_directories (output_value e.1)))

-- one step more
pub next_outcome : (os : List OutcomeValue) (i : ℕ) (o : OutcomeValue) → i < length os → o ≡ get_or os i o → outcomes_directories (take (i + 1) os) ≡ outcomes_directories (take i os) ++ outputs_directories o.outputs
next_outcome os i o lt is =
    let cut : take (i + 1) os ≡ take i os ++ o ∷ [] = take_more os i o lt ∙ ap (λ x. take i os ++ x ∷ []) (sym is) in
    ap outcomes_directories cut ∙ outcomes_more (take i os) (o ∷ []) ∙ ap (λ ds. outcomes_directories (take i os) ++ ds) (append-nil (outputs_directories o.outputs))
