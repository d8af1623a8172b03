-- ---- what a reader must believe: the layout, its listing, groups and counts, the call; and how a contract reads its references
pub mod Layout
pub mod Listing
pub mod Groups
pub mod Paint
pub mod Call
pub mod Frames
-- ---- proof vocabulary: what the functions inside the call ask and ensure
pub mod Contract
