-- What answers of the input say of the files that are read, handed on.
pub use Rattle.lx_files.specs.declared.line.FaultLine
pub use Rattle.lx_files.specs.declared.sources.Besides
pub use Rattle.lx_files.specs.declared.sources.ImageFile
pub use Rattle.lx_files.specs.declared.sources.Sources
pub use Rattle.lx_files.specs.declared.stop.InputStop
pub use Rattle.lx_files.specs.Asked
pub use Rattle.lx_files.specs.Inputs
pub use Rattle.lx_files.specs.Laws
pub use Rattle.lx_files.specs.Lines
pub use Rattle.lx_files.specs.Turns
