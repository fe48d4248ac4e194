mod Redexes
mod QuotientRuns
mod Arguments
mod QuotientRows
