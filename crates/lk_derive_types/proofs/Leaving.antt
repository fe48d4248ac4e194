-- What calls leave, one after another.
use Rattle.std.proofs.Common.{◌≡◌, ap, ◌∙◌}
use Rattle.lk_store.specs.Contents.{Contents, Extends}
use Rattle.lk_store.proofs.Extending.{Extends-trans}
use Rattle.lk_ask.specs.Looks.{Sight}
use Rattle.lk_step.specs.Told.{Leaves}

module _ {S R B : Type 0} (contents : S → Contents) (rest : S → R) (sight : R → Sight B) where
  -- what only makes terms
  pub leaves_made : (old new : S) → Extends (contents old) (contents new) → rest new ≡ rest old → Leaves contents rest sight old new
  leaves_made old new x e = record {
    keeps = x;
    library = ap (λ r. (sight r).basis.library) e;
    place = ap (λ r. (sight r).basis.place) e;
    beside = ap (λ r. (sight r).basis.beside) e;
  }

  pub leaves_then : (old mid new : S) → Leaves contents rest sight old mid → Leaves contents rest sight mid new → Leaves contents rest sight old new
  leaves_then old mid new h k = record {
    keeps = Extends-trans (contents old) (contents mid) (contents new) h.keeps k.keeps;
    library = k.library ∙ h.library;
    place = k.place ∙ h.place;
    beside = k.beside ∙ h.beside;
  }
