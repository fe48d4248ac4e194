-- What a lookout stands for: a scope, the site from where it is seen, the terms, and what is left
-- of a budget.
use Rattle.lk_env.specs.StoredScope.{StoredScope}
use Rattle.lk_env.specs.declared.entry.Site.{Site}
use Rattle.lk_meter.specs.declared.meter.Meter.{Meter}

pub record Outlook (T : Type 0) : Type 0 where
  pub scope : StoredScope
  pub site : Site
  pub terms : T
  pub meter : Meter
