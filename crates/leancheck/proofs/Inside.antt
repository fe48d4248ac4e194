-- What is known of whoever tells rows is known of whoever answers for it.
use Rattle.std.proofs.Common.{ℕ, ◌≡◌, sym, subst}
use Rattle.lk_rulebook.specs.Place.{Place}
use Rattle.lk_store.specs.Contents.{Contents, tree_at}
use Rattle.lk_ask.specs.declared.query.Query.{Query}
use Rattle.lk_ask.specs.Questions.{query_of}
use Rattle.lk_step.specs.Told.{IsAnsweredWithin}
use Rattle.leancheck.specs.Deriving.{Deriving}

pub answered_inside : {D : Type 0} (contents : D → Contents) (place : D → Place) (inside self : Deriving D) (q : Query ℕ)
    → inside ≡ self → IsAnsweredWithin (place self.derives) (query_of (tree_at (contents self.derives)) q) self.enough
    → IsAnsweredWithin (place inside.derives) (query_of (tree_at (contents inside.derives)) q) inside.enough
answered_inside {D} contents place inside self q is h =
    subst (λ (s : Deriving D). IsAnsweredWithin (place s.derives) (query_of (tree_at (contents s.derives)) q) s.enough) (sym is) h
