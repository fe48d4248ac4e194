-- An overlay in which nothing was made yet has what the library has.
use Rattle.std.proofs.Common.{◌≡◌, sym, ap, subst}
use Rattle.lk_spell.proofs.Growing.{Extends-self}
use Rattle.lk_store.specs.Contents.{Contents, Extends}
use Rattle.lk_store.specs.Store.{no_tables, contents_of}
use Rattle.lk_store.specs.Layers.{Layers, layers_contents}
use Rattle.lk_store.specs.declared.tables.Tables.{Tables}

pub fresh : (b : Tables) (l : Layers) → l ≡ record { base = b; own = no_tables }
    → layers_contents l ≡ contents_of b → Extends (contents_of l.base) (layers_contents l)
fresh b l value same =
    subst (λ (t : Tables). Extends (contents_of t) (layers_contents l)) (sym (ap (λ (k : Layers). k.base) value))
    (subst (Extends (contents_of b)) (sym same) (Extends-self (contents_of b)))
