-- ---- what a reader must believe: what the call answers and leaves, that the two layouts agree, and how a contract reads its references
pub mod Call
pub mod Agreement
pub mod Frames
-- ---- proof vocabulary: the entries of the pending area, and what the functions inside the call ask and ensure
pub mod Contract
