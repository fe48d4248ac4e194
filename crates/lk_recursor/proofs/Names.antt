-- The level parameters of a recursor.
use Rattle.std.proofs.Common.{◌≡◌, ◌<◌, ℕ, true, List, ◌∷◌, map, length, All, sym, ap, ◌∙◌}
use Rattle.std.specs.Prelude.{if◌then◌else◌}
use Rattle.std.proofs.lemmas.List.Elements.{All-cons, All-same}
use Rattle.lk_store.specs.Contents.{Contents, name_at, Extends, IsName}
use Rattle.lk_inductive.specs.Block as plain
use Rattle.lk_inductive.specs.Recursors.{motive_level, rec_params}
use Rattle.lk_env.proofs.Stays.{names_stay, names_in_stay}

-- with the one that large elimination adds
pub names_large : (c d : Contents) (grown : Extends c d) (first : ℕ) (own all : List ℕ) (p : plain.Shape) → All (λ n. n < length c.names) own → p.levels ≡ map (name_at c) own
    → all ≡ first ∷ own → IsName d first motive_level → p.large ≡ true → map (name_at d) all ≡ rec_params p
names_large c d grown first own all p known levels are is large =
    let others = names_stay c d grown own known in
    let one = is.is in
    ap (map (name_at d)) are ∙ rw (one, others, ← levels) (sym (ap (λ b. if b then motive_level ∷ p.levels else p.levels) large))

pub names_large-known : (c d : Contents) (grown : Extends c d) (first : ℕ) (own all : List ℕ) → All (λ n. n < length c.names) own → all ≡ first ∷ own → first < length d.names → All (λ n. n < length d.names) all
names_large-known c d grown first own all known are here = All-same (λ n. n < length d.names) all (first ∷ own) are (All-cons (λ n. n < length d.names) first own here (names_in_stay c d grown own known))
