mod CoreRuns
mod Begun
mod CoreRows
mod Inert
mod MajorHeads
mod FormRuns
mod FormRows
mod ProjectionRuns
