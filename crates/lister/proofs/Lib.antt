pub mod AnswerLaws
pub mod NumberLaws
pub mod Beginning
pub mod Finishing
pub mod LastProjection
pub mod RowKinds
pub mod HandingLaws
pub mod Operating
