pub mod LastProjection
