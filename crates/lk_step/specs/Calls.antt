-- What the calls of an engine leave as it was, by what its lookout stands for.
use Rattle.std.specs.Prelude.{◌≡◌, ℕ, [], Result, IfOk, OnErr}
use Rattle.lk_store.specs.declared.memory.NoMemory.{NoMemory}
use Rattle.lk_store.specs.declared.tables.Tables.{Tables}
use Rattle.lk_store.specs.Contents.{Contents, Extends}
use Rattle.lk_store.specs.Store.{contents_of}
use Rattle.lk_store.specs.Layers.{layers_contents, Layers}
use Rattle.lk_env.specs.declared.entry.Partial.TheVariants.{Nothing}
use Rattle.lk_env.specs.declared.entry.Site.{Site}
use Rattle.lk_env.specs.Scopes.{place_in}
use Rattle.lk_env.specs.StoredScope.{lent_by, StoredScope}
use Rattle.lk_meter.specs.declared.meter.Meter.{Meter}
use Rattle.lk_ask.specs.Looks.{Sight}
use Rattle.lk_ask.specs.Outlook.{Outlook}

-- what numbers stand for
abbrev pub contents_from : Outlook Layers → Contents
contents_from s = layers_contents s.terms

-- all but the terms: the scope, from where it is seen, the meter, and the library's tables
abbrev pub rest_from : Outlook Layers → StoredScope × Site × Meter × Tables
rest_from s = (s.scope, s.site, s.meter, s.terms.base)

-- what is seen by these
abbrev pub sight_from : StoredScope × Site × Meter × Tables → Sight (StoredScope × Site × Tables)
sight_from r = record {
  basis = record {
    library = lent_by r.0;
    place = place_in r.0 r.1;
    left = r.2.left;
    beside = (r.0, r.1, r.3);
  };
  last = r.2.last;
}

-- something was made, and its number is good for it; without memory nothing was
pub record MakesOne (old new : Outlook Layers) (result : Result ℕ NoMemory)
    (is_good : Contents → ℕ → Type 0) : Type 0 where
  pub keeps : Extends (contents_from old) (contents_from new)
  pub rest : rest_from new ≡ rest_from old
  pub ok : IfOk result (is_good (contents_from new))
  pub err : OnErr result (contents_from new ≡ contents_from old)

-- numbers stand for what they stood for, and all else is as it was
pub record LeavesAll (old new : Outlook Layers) : Type 0 where
  pub contents : contents_from new ≡ contents_from old
  pub rest : rest_from new ≡ rest_from old

-- it looks from this unit of the same library, whose tables its store has, with no auxiliary types
-- and nothing partial, over the same terms
pub record LooksFrom (old new : Outlook Layers) (unit : ℕ) : Type 0 where
  pub library : new.scope.library ≡ old.scope.library
  pub auxiliary : new.scope.auxiliary ≡ []
  pub site : new.site ≡ record { unit = unit; partial = Nothing }
  pub terms : new.terms ≡ old.terms
  pub over : Extends (contents_of old.scope.library.tables) (contents_from old)
