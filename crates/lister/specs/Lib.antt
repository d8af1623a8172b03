-- ---- what a reader must believe: what a call is given, its answers, the prints, handing out, what the last projection left as it was; and how a contract reads its references
pub mod Source
pub mod Answers
pub mod Prints
pub mod Handing
pub mod LastProjection
pub mod Frames
-- ---- proof vocabulary: the prints in the code's stages. `Begins` is also what a print of a checked pool asks of its caller
pub mod Stages
