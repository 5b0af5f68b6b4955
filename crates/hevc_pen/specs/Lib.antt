pub mod HeadLaws
pub mod RemainderLaws
