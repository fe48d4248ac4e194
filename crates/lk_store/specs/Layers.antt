-- What stands over a library's tables: the library's, and what was made here.
use Rattle.lk_store.specs.Contents.{Contents}
use Rattle.lk_store.specs.Store.{over, contents_of}
use Rattle.lk_store.specs.declared.tables.Tables.{Tables}

pub record Layers : Type 0 where
  pub base : Tables
  pub own : Tables

-- what numbers stand for over both, the library's first
abbrev pub layers_contents : Layers → Contents
layers_contents l = contents_of (over l.base l.own)
