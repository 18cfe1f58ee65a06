-- What contracts cite.
pub mod GoodHistories
pub mod Twins
pub mod GivenBy
pub mod Collected
pub mod Courses
pub mod Laws
