pub mod ArgumentLaws
pub mod IntrinsicLaws
pub mod CallLaws
